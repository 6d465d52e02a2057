-- What the code reads and stores at the places of the five indices is the step with them, and its output. Assumes nothing.
use mathlib.Core.Path.{◌≡◌, refl, ap, ◌∙◌}
use mathlib.Core.Bool.{Bool}
use mathlib.Core.List.{List}
use Prim.Native.Nat.{ℕ, ◌-◌}
use lib.ListN.{length, get_or, set, take, drop}
use Rattle.word.specs.Word.{◌⊞◌, ◌⊕◌}
use Rattle.cipher.specs.declared.Cipher.{Cipher}
use Rattle.cipher.specs.declared.Cipher.TheVariants.{Hc256}
use Rattle.cipher.specs.Numbers.{table_length}
use Rattle.functions.specs.Functions.{table, start_b, g256}
use Rattle.functions.specs.ByCipher.{feedback_of, h_of, filter_of}
use Rattle.functions.proofs.Tables.{part_table}
use Rattle.tables.specs.declared.Indices.{Indices}
use Rattle.tables.specs.Area.{start_a, places}
use Rattle.tables.proofs.Masks.{start_b_lem}
use Rattle.carried.specs.Steps.{step_with, output_with}

module _ (c : Cipher) (p : Bool) (s : List ℕ) (x : Indices) {q : Indices} {v : ℕ} (e : q ≡ places (table_length c) p x) where
  pub step_read : v ≡ get_or s q.j 0 ⊞ feedback_of c p s (get_or s q.minus3 0) (get_or s q.minus10 0) (get_or s q.plus1 0)
      → set s q.j v ≡ step_with c p s x
  unfolding step_with
  step_read g = rw (g, e) refl

  pub output_read : v ≡ filter_of c p s (get_or s q.minus12 0) → v ⊕ get_or s q.j 0 ≡ output_with c p s x
  unfolding output_with
  output_read g = rw (g, e) refl

-- HC-256, with the table that is looked up as the part of the area from t - a on
module _ (p : Bool) (s : List ℕ) (x : Indices) {q : Indices} {t a : ℕ} (e : q ≡ places (table_length Hc256) p x) (f : t ≡ table_length Hc256) (h : a ≡ start_a t p) where
  part_is : table (take (length s - (t - a)) (drop (t - a) s)) 0 ≡ table s (start_b 1024 p)
  part_is = part_table s (t - a) ∙ ap (table s) (rw (h, f) (start_b_lem 1024 p))

  pub step_256 : {g : ℕ} → g ≡ g256 (table (take (length s - (t - a)) (drop (t - a) s)) 0) (get_or s q.minus3 0) (get_or s q.plus1 0)
      → set s q.j (get_or s q.j 0 ⊞ (get_or s q.minus10 0 ⊞ g)) ≡ step_with Hc256 p s x
  unfolding feedback_of
  step_256 g =
      let looked-up = g ∙ ap (λ (B : ℕ → ℕ). g256 B (get_or s q.minus3 0) (get_or s q.plus1 0)) part_is in
      step_read Hc256 p s x e (ap (λ (y : ℕ). get_or s q.j 0 ⊞ (get_or s q.minus10 0 ⊞ y)) looked-up)

  pub output_256 : {h : ℕ} → h ≡ h_of Hc256 (table (take (length s - (t - a)) (drop (t - a) s)) 0) (get_or s q.minus12 0)
      → h ⊕ get_or s q.j 0 ≡ output_with Hc256 p s x
  unfolding filter_of
  output_256 h = output_read Hc256 p s x e (h ∙ ap (λ (B : ℕ → ℕ). h_of Hc256 B (get_or s q.minus12 0)) part_is)
