-- Where no index wraps, feedback, filter and A[j] of step k are read at places around k; and what is made at a place is made at the step.
use mathlib.Core.Path.{◌≡◌, refl, ◌∙◌}
use mathlib.Core.Bool.{Bool}
use mathlib.Core.List.{List}
use Prim.Native.Nat.{ℕ, ◌+◌, ◌-◌, ◌%◌, ◌≤◌, ◌<◌}
use native.Mathlib.Omega.{arith}
use lib.ListN.{get_or}
use Rattle.cipher.specs.declared.Cipher.{Cipher}
use Rattle.cipher.specs.declared.Cipher.TheVariants.{Hc128, Hc256}
use Rattle.cipher.specs.Numbers.{table_length, area_length}
use Rattle.functions.specs.ByCipher.{feedback_of, h_of, filter_of}
use Rattle.tables.specs.Area.{changes_p, start_a}
use Rattle.tables.specs.Step.{feedback, filter, place}
use Rattle.tables.proofs.Places.{place_is}
use Rattle.runs.specs.Run.{At}
use Rattle.runs.specs.Change.{ByPlace}

-- A[j-m] stands m places before A[j], and A[j+1] one place after it
before : (c : Cipher) {s : List ℕ} {p : Bool} (k m : ℕ) → At c s p k → 0 < m → m ≤ 12
    → start_a (table_length c) (changes_p (table_length c) k) + (k % table_length c + (table_length c - m)) % table_length c ≡ k - m
before Hc128 k m a z l = let f = place_is Hc128 k in omega arith
before Hc256 k m a z l = let f = place_is Hc256 k in omega arith

after : (c : Cipher) {s : List ℕ} {p : Bool} (k : ℕ) → At c s p k
    → start_a (table_length c) (changes_p (table_length c) k) + (k % table_length c + 1) % table_length c ≡ k + 1
after Hc128 k a = let f = place_is Hc128 k in omega arith
after Hc256 k a = let f = place_is Hc256 k in omega arith

pub place_at : (c : Cipher) {s : List ℕ} {p : Bool} (k : ℕ) → At c s p k → place c k ≡ k
place_at Hc128 k a = place_is Hc128 k ∙ omega arith
place_at Hc256 k a = place_is Hc256 k ∙ omega arith

pub feedback_at : (c : Cipher) {s : List ℕ} {p : Bool} (k : ℕ) → At c s p k → {z : ℕ} → z ≡ get_or s (k + 1) 0
    → feedback_of c p s (get_or s (k - 3) 0) (get_or s (k - 10) 0) z ≡ feedback c s k
unfolding feedback_of feedback
feedback_at Hc128 k a e =
    rw (e, before Hc128 k 3 a (omega arith) (omega arith), before Hc128 k 10 a (omega arith) (omega arith), after Hc128 k a, a.half) refl
feedback_at Hc256 k a e =
    rw (e, before Hc256 k 3 a (omega arith) (omega arith), before Hc256 k 10 a (omega arith) (omega arith), after Hc256 k a, a.half) refl

pub filter_at : (c : Cipher) {s : List ℕ} {p : Bool} (k : ℕ) → At c s p k → filter_of c p s (get_or s (k - 12) 0) ≡ filter c s k
unfolding filter_of h_of filter
filter_at Hc128 k a = rw (before Hc128 k 12 a (omega arith) (omega arith), a.half) refl
filter_at Hc256 k a = rw (before Hc256 k 12 a (omega arith) (omega arith), a.half) refl

-- a place m on is that of the step m on
same_place_later : (c : Cipher) (i m : ℕ) {k : ℕ} → k ≡ place c i → (k + m) % area_length c ≡ (i + m) % area_length c
same_place_later Hc128 i m e = omega (arith, e, place_is Hc128 i)
same_place_later Hc256 i m e = omega (arith, e, place_is Hc256 i)

module _ {c : Cipher} {f g : List ℕ → ℕ → List ℕ} (b : ByPlace c f g) (i : ℕ) {k : ℕ} (e : k ≡ place c i) (s : List ℕ) (m : ℕ) where
  pub forth_at_place : {t : List ℕ} → t ≡ f s (k + m) → t ≡ f s (i + m)
  forth_at_place q = q ∙ b.forth_same s _ _ (same_place_later c i m e)

  pub back_at_place : {t : List ℕ} → t ≡ g s (k + m) → t ≡ g s (i + m)
  back_at_place q = q ∙ b.back_same s _ _ (same_place_later c i m e)
