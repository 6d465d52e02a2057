-- What the loop over a run keeps: the words of m steps are done, each with the five carried from the one before, and x are the five of the next step;
-- and the beginning of a word. Assumes nothing.
use mathlib.Core.Path.{◌≡◌, sym, ap, ap₂, ◌∙◌}
use mathlib.Core.Bool.{Bool}
use mathlib.Core.List.{List}
use Prim.Native.Nat.{ℕ, ◌+◌, ◌-◌, ◌*◌, ◌≤◌, ◌<◌}
use native.Mathlib.Nat.{zero-add}
use native.Mathlib.Omega.{arith}
use lib.ListN.{length}
use Rattle.laws.proofs.Iterate.{forward_none, forward_one}
use Rattle.cipher.specs.declared.Cipher.{Cipher}
use Rattle.cipher.specs.Numbers.{table_length}
use Rattle.tables.specs.declared.Indices.{Indices}
use Rattle.carried.specs.Carried.{carried}
use Rattle.carried.specs.Runs.{NoneWraps}
use Rattle.carried.specs.Steps.{step_with, output_with}
use Rattle.carried.specs.Runs.{Taken, run_step, run_output}
use Rattle.carried.proofs.Five.{none_wraps_later, none_wraps_fewer, carried_add}
use Rattle.steps.specs.Steps.{steps_at}
use Rattle.keystream.specs.Stores.{xor_part, Begun}
use Rattle.keystream.proofs.Words.{Words, words_start, words_turn_by, words_end, worded_same, last_none, last_more}

module _ (c : Cipher) (p : Bool) (at : Indices) (s₀ bs₀ : List ℕ) (start n w₀ : ℕ) where
  abbrev pub Run : List ℕ → List ℕ → Indices → ℕ → ℕ → Type 0
  Run s bs x w m = Words (run_step c p at) (run_output c p at) s₀ bs₀ 0 start n w₀ s bs w m × (x ≡ carried (table_length c) at m)

  pub run_start : Run s₀ bs₀ at w₀ 0
  run_start = (words_start _ _ _ _ _ _ _ _, sym (forward_none _ _ _))

  -- r steps more, from the five x on
  pub run_turn : {s bs : List ℕ} {x : Indices} {w m : ℕ} (r : ℕ) → Run s bs x w m → 0 < r → m + r ≤ n
      → {t bs' : List ℕ} {y : Indices} {v k : ℕ} → Words (run_step c p x) (run_output c p x) s bs 0 (start + 4 * m) r w t bs' v k × (y ≡ carried (table_length c) x k) → r ≤ k
      → Run t bs' y v (m + r)
  run_turn {s} {bs} {x} {w} {m} r run z l {k = k} more h =
      let T = table_length c in
      let e : k ≡ r = omega (arith, more.0.0.within) in
      let shifted : (j : ℕ) → carried T x (0 + j) ≡ carried T at (0 + m + j) =
      λ j. ap (λ (y : Indices). carried T y (0 + j)) run.1 ∙ carried_add T at m (0 + j) ∙ ap (carried T at) (omega arith) in (
        words_turn_by _ _ _ _ _ _ _ _ r run.0 z (omega arith)
            (worded_same _ _ _ _ 0 (0 + m) r (λ t j b. ap (step_with c p t) (shifted j)) (λ t j b. ap (output_with c p t) (shifted j)) s bs (start + 4 * m) w (words_end _ _ _ _ _ _ _ _ more.0 h))
            more.0.0.sized more.0.1.sized,
        more.1 ∙ ap (carried T x) e ∙ ap (λ (y : Indices). carried T y r) run.1 ∙ carried_add T at m r,
      )

  -- none wraps in r steps more
  pub run_wraps_none : {s bs : List ℕ} {x : Indices} {w m : ℕ} (r : ℕ) → Run s bs x w m → NoneWraps (table_length c) at n → m + r ≤ n → NoneWraps (table_length c) x r
  run_wraps_none {m = m} r run v l =
      rw run.1 (none_wraps_fewer (table_length c) _ (n - m) r (none_wraps_later (table_length c) at n m v (omega arith)) (omega arith))

-- a step with the five carried k times
module _ (c : Cipher) (p : Bool) (at : Indices) (k : ℕ) (s : List ℕ) {x : Indices} (e : x ≡ carried (table_length c) at k) where
  pub run_stepped : {t : List ℕ} → t ≡ step_with c p s x → t ≡ run_step c p at s (0 + k)
  run_stepped f = f ∙ ap (step_with c p s) (e ∙ ap (carried (table_length c) at) (sym (zero-add k)))

  pub run_put : {w : ℕ} → w ≡ output_with c p s x → w ≡ run_output c p at s (0 + k)
  run_put f = f ∙ ap (output_with c p s) (e ∙ ap (carried (table_length c) at) (sym (zero-add k)))

-- ---- the beginning of a word, with the step that has the five x

pub begun_none : (f : List ℕ → ℕ → List ℕ) (o : List ℕ → ℕ → ℕ) (s bs : List ℕ) (n w : ℕ) → n ≡ 0 → Begun f o s bs 0 n w s bs w
begun_none f o s bs n w e = rw e (sym (forward_none _ _ _), sym (forward_none _ _ 0), sym (last_none o w s 0))

module _ (c : Cipher) {p : Bool} (x : Indices) where
  same_step : (q : Bool) (s : List ℕ) → p ≡ q → step_with c p s x ≡ run_step c q x s 0
  same_step q s e = ap₂ (λ (b : Bool) (y : Indices). step_with c b s y) e (sym (forward_none _ _ _))

  same_output : (q : Bool) (s : List ℕ) → p ≡ q → output_with c p s x ≡ run_output c q x s 0
  same_output q s e = ap₂ (λ (b : Bool) (y : Indices). output_with c b s y) e (sym (forward_none _ _ _))

  pub begun_some : (q : Bool) (s bs : List ℕ) (n w : ℕ) → p ≡ q → (n ≡ 0 → ⊥) → n < 4 → {t bs' : List ℕ} {r : ℕ} → Taken c p s x t r
      → bs' ≡ xor_part (length bs - n) n r 0 bs → Begun (run_step c q x) (run_output c q x) s bs 0 n w t bs' r
  begun_some q s bs n w e h l {t} v g =
      let one : steps_at n ≡ 1 = omega arith in
      let stepped = v.0 ∙ same_step q s e in
      let out = v.1 ∙ same_output q t e in (
        rw one (stepped ∙ sym (forward_one _ _ _)),
        g ∙ ap (λ (y : ℕ). xor_part (length bs - n) n y 0 bs) (out ∙ ap (λ (y : List ℕ). run_output c q x y 0) stepped),
        rw one (out ∙ sym (last_more (run_output c q x) w t 0 0)),
      )
