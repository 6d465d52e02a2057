-- The words of an area of zeros do not follow the rule of Wi, so no key and IV fill it, and at every position some tables come from no key and
-- IV. Assumes nothing.
use mathlib.Core.Path.{◌≡◌, refl, ◌∙◌}
use mathlib.Core.Bool.{false}
use mathlib.Core.List.{List}
use Prim.Native.Nat.{ℕ, zero, suc, ◌+◌, ◌/◌, ◌^◌, ◌<◌}
use native.Mathlib.Omega.{arith}
use lib.ListN.{get_or, replicate, length-replicate}
use Rattle.laws.proofs.Same.{same_equal, and_left, not_true_is_false}
use Rattle.word.specs.Word.{f1, f2, ◌⊞◌}
use Rattle.cipher.specs.declared.Cipher.{Cipher}
use Rattle.cipher.specs.Numbers.{table_length, area_length}
use Rattle.tables.specs.Area.{Area}
use Rattle.schedule.specs.Expansion.{filled}
use Rattle.schedule.specs.Origin.{origin, is_filled}
use Rattle.schedule.proofs.Expansion.{sizes}
use Rattle.schedule.proofs.Unexpansion.{next_from, filled_follows}
use Rattle.last_pass.specs.LastPass.{last_pass}
use Rattle.last_pass.proofs.Inverse.{last_pass_area, last_pass_undone}
use Rattle.steps.specs.Steps.{steps, steps_back, steps_at}
use Rattle.steps.proofs.Inverse.{steps_area, steps_undone}
use Rattle.setup.specs.SetUp.{undo, none}
use Rattle.setup.proofs.Inverse.{undo_not_filled}

abbrev zeros : ℕ → List ℕ
zeros n = replicate n 0

zero_at : (n k : ℕ) → get_or (zeros n) k 0 ≡ 0
zero_at zero k = refl
zero_at (suc n) zero = refl
zero_at (suc n) (suc k) = zero_at n k

-- Wi after zeros is i
zeros_next : (i : ℕ) → i < 2 ^ 32 → f2 0 ⊞ 0 ⊞ f1 0 ⊞ 0 ⊞ i ≡ i
unfolding f1 f2
zeros_next i l = omega arith

module _ (c : Cipher) where
  abbrev s : List ℕ
  s = zeros (area_length c)

  zeros_area : Area c s
  zeros_area = record { sized = length-replicate (area_length c) 0; words = λ k. rw zero_at (omega arith) }

  -- the area's word 16 would be W(T/2+16), and that is not 0
  zeros_not_filled : is_filled c s ≡ false
  unfolding is_filled
  zeros_not_filled =
      let z = sizes c in
      let half = table_length c / 2 in
      not_true_is_false (is_filled c s)
      (λ e.
      let fills = same_equal s (filled c (origin c s)) (and_left _ _ e) in
      let follows = filled_follows c s zeros_area.sized zeros_area.words fills 16 (rw length-replicate (omega arith)) (omega arith) in
      let is-0 = (simp zero_at at (follows ∙ next_from s half 16 (omega arith))) ∙ zeros_next (half + 16) (omega arith) in
      omega arith)

  -- an area from which undoing set-up finds none
  pub none_found : (s : List ℕ) × Area c s × (undo c s ≡ none)
  none_found = (
    last_pass c s,
    last_pass_area c s zeros_area,
    undo_not_filled c (last_pass c s) (rw (last_pass_undone c s zeros_area) zeros_not_filled),
  )

  -- tables at position p from which undoing the steps and set-up finds none
  pub none_found_at : (p : ℕ) → (s : List ℕ) × Area c s × (undo c (steps_back c s 0 (steps_at p)) ≡ none)
  none_found_at p =
      let (t, area, e) = none_found in
      (steps c t 0 (steps_at p), steps_area c t 0 (steps_at p) area, rw (steps_undone c t 0 (steps_at p) area) e)
