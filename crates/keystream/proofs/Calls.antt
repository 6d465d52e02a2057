-- What the loop over the words of a cipher call keeps, whose first step is step i: the words of k steps are done, and x are the five of step i + k.
-- Assumes nothing.
use mathlib.Core.Path.{◌≡◌, sym, ap, ap₂, ◌∙◌}
use mathlib.Core.Bool.{Bool}
use mathlib.Core.List.{List}
use Prim.Native.Nat.{ℕ, ◌+◌, ◌*◌, ◌≤◌, ◌<◌}
use native.Mathlib.Nat.{zero-add}
use native.Mathlib.Omega.{arith}
use lib.ListN.{length}
use Rattle.laws.proofs.Iterate.{forward_none, forward_more}
use Rattle.cipher.specs.declared.Cipher.{Cipher}
use Rattle.cipher.specs.Numbers.{table_length}
use Rattle.tables.specs.declared.Indices.{Indices}
use Rattle.tables.specs.Area.{changes_p, indices_at}
use Rattle.carried.specs.Carried.{carried, next_five, five_of}
use Rattle.carried.specs.Runs.{NoneWraps}
use Rattle.carried.specs.Steps.{step_with, output_with, call_step, call_output}
use Rattle.carried.specs.Runs.{Taken, run_step, run_output}
use Rattle.carried.proofs.Steps.{run_step_lem, run_output_lem, five_later}
use Rattle.keystream.specs.Stores.{xor_part, Worded}
use Rattle.keystream.proofs.Words.{Words, words_start, words_turn, words_turn_by, worded_same}

module _ (c : Cipher) (i : ℕ) (s₀ bs₀ : List ℕ) (start n w₀ : ℕ) where
  abbrev pub Call : List ℕ → List ℕ → Indices → ℕ → ℕ → Type 0
  Call s bs x w k = Words (call_step c i) (call_output c i) s₀ bs₀ 0 start n w₀ s bs w k × (x ≡ five_of (table_length c) i k)

  pub call_start : {x : Indices} → x ≡ indices_at (table_length c) i → Call s₀ bs₀ x w₀ 0
  call_start e = (words_start _ _ _ _ _ _ _ _, e ∙ sym (forward_none _ _ _))

  module _ {s bs : List ℕ} {x : Indices} {w k : ℕ} (call : Call s bs x w k) {p : Bool} (f : p ≡ changes_p (table_length c) (i + k)) where
    -- one step more, with the five x
    pub call_one : {t bs' : List ℕ} {v : ℕ} {y : Indices} → k < n → Taken c p s x t v → length t ≡ length s → bs' ≡ xor_part (start + 4 * k) 4 v 0 bs
        → length bs' ≡ length bs → y ≡ five_of (table_length c) i (k + 1) → Call t bs' y v (k + 1)
    call_one {t} l taken z g b h =
        let T = table_length c in
        let half : p ≡ changes_p T (i + (0 + k)) = f ∙ ap (λ (j : ℕ). changes_p T (i + j)) (sym (zero-add k)) in
        let five : x ≡ five_of T i (0 + k) = call.1 ∙ ap (five_of T i) (sym (zero-add k)) in (
          words_turn _ _ _ _ _ _ _ _ call.0 l
              (taken.0 ∙ ap₂ (λ (q : Bool) (y : Indices). step_with c q s y) half five) z
              (taken.1 ∙ ap₂ (λ (q : Bool) (y : Indices). output_with c q t y) half five) g b,
          h,
        )

    -- r steps more of one turn, from the five x on
    pub call_run : {t bs' : List ℕ} {v : ℕ} {y : Indices} (r : ℕ) → 0 < r → k + r ≤ n → NoneWraps (table_length c) x r
        → Worded (run_step c p x) (run_output c p x) s bs 0 (start + 4 * k) r w t bs' v × (y ≡ carried (table_length c) x r)
        → length t ≡ length s → length bs' ≡ length bs → Call t bs' y v (k + r)
    call_run r z l none run a b =
        let T = table_length c in
        let fit : (m : ℕ) → m < r → x.j + m < T = λ m q. omega (arith, none.j_in, q) in (
          words_turn_by _ _ _ _ _ _ _ _ r call.0 z (omega arith)
              (worded_same _ _ _ _ 0 (0 + k) r
              (λ t m q. ap (run_step c p x t) (zero-add m) ∙ run_step_lem c i k m call.1 f (fit m q) t ∙ ap (call_step c i t) (omega arith))
              (λ t m q. ap (run_output c p x t) (zero-add m) ∙ run_output_lem c i k m call.1 f (fit m q) t ∙ ap (call_output c i t) (omega arith))
              s bs (start + 4 * k) w run.0)
              a b,
          run.1 ∙ ap (λ (y : Indices). carried T y r) call.1 ∙ five_later c i k r,
        )

  -- the five of the step after it
  pub call_next : {s bs : List ℕ} {x y : Indices} {w k : ℕ} → Call s bs x w k → y ≡ next_five (table_length c) x (i + k) → y ≡ five_of (table_length c) i (k + 1)
  call_next {k = k} call h =
      let T = table_length c in
      h ∙ ap (λ (y : Indices). next_five T y (i + k)) call.1 ∙ sym (forward_more (next_five T) (indices_at T i) i k)
