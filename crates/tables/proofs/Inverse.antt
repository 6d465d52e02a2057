-- A step and its inverse undo each other, both ways, on every area of either cipher.
use mathlib.Core.Path.{◌≡◌}
use mathlib.Core.List.{List}
use Prim.Native.Nat.{ℕ}
use native.Mathlib.Omega.{arith}
use Rattle.word.specs.Word.{◌⊞◌, ◌⊟◌}
use Rattle.word.proofs.Laws.{sum_difference, difference_sum}
use Rattle.cipher.specs.declared.Cipher.{Cipher}
use Rattle.tables.specs.Area.{Area}
use Rattle.tables.specs.Step.{step, step_back}
use Rattle.tables.proofs.Change.{change_area, change_undone}

pub step_area : (c : Cipher) (s : List ℕ) (i : ℕ) → Area c s → Area c (step c s i)
unfolding step
step_area = change_area (λ x d h. x ⊞ d) (λ x d h l m. omega arith)

pub step_back_area : (c : Cipher) (s : List ℕ) (i : ℕ) → Area c s → Area c (step_back c s i)
unfolding step_back
step_back_area = change_area (λ x d h. x ⊟ d) (λ x d h l m. omega arith)

pub step_undone : (c : Cipher) (s : List ℕ) (i : ℕ) → Area c s → step_back c (step c s i) i ≡ s
unfolding step step_back
step_undone = change_undone (λ x d h. x ⊞ d) (λ x d h. x ⊟ d) (λ x d h l m n. sum_difference x d l m)

pub step_redone : (c : Cipher) (s : List ℕ) (i : ℕ) → Area c s → step c (step_back c s i) i ≡ s
unfolding step step_back
step_redone = change_undone (λ x d h. x ⊟ d) (λ x d h. x ⊞ d) (λ x d h l m n. difference_sum x d l m)
