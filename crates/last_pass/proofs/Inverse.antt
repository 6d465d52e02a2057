-- Set-up's last pass and its inverse undo each other, both ways, on every area of either cipher.
use mathlib.Core.Path.{◌≡◌}
use mathlib.Core.List.{List}
use Prim.Native.Nat.{ℕ}
use native.Mathlib.Omega.{arith}
use lib.Bits.{xor_lt}
use Rattle.laws.proofs.Iterate.{forward_kept, backward_kept, backward_forward, forward_backward}
use Rattle.word.specs.Word.{◌⊞◌, ◌⊟◌, ◌⊕◌}
use Rattle.word.proofs.Laws.{sum_difference, difference_sum, xor_xor}
use Rattle.cipher.specs.declared.Cipher.{Cipher}
use Rattle.cipher.specs.declared.Cipher.TheVariants.{Hc128, Hc256}
use Rattle.tables.specs.Area.{Area}
use Rattle.tables.proofs.Change.{change_area, change_undone}
use Rattle.tables.proofs.Inverse.{step_area, step_back_area, step_undone, step_redone}
use Rattle.last_pass.specs.LastPass.{change, change_back, changes, last_pass, undo_last_pass}

-- ---- one change

forth_area : (c : Cipher) (s : List ℕ) (i : ℕ) → Area c s → Area c (change c s i)
unfolding change
forth_area Hc128 = change_area (λ x d h. (x ⊞ d) ⊕ h) (λ x d h l m. xor_lt 32 (x ⊞ d) h (omega arith) m) Hc128
forth_area Hc256 = step_area Hc256

back_area : (c : Cipher) (s : List ℕ) (i : ℕ) → Area c s → Area c (change_back c s i)
unfolding change_back
back_area Hc128 = change_area (λ x d h. (x ⊕ h) ⊟ d) (λ x d h l m. omega arith) Hc128
back_area Hc256 = step_back_area Hc256

undone : (c : Cipher) (s : List ℕ) (i : ℕ) → Area c s → change_back c (change c s i) i ≡ s
unfolding change change_back
undone Hc128 =
    change_undone (λ x d h. (x ⊞ d) ⊕ h) (λ x d h. (x ⊕ h) ⊟ d) (λ x d h l m n. rw xor_xor (sum_difference x d l m)) Hc128
undone Hc256 = step_undone Hc256

redone : (c : Cipher) (s : List ℕ) (i : ℕ) → Area c s → change c (change_back c s i) i ≡ s
unfolding change change_back
redone Hc128 =
    change_undone
    (λ x d h. (x ⊕ h) ⊟ d)
    (λ x d h. (x ⊞ d) ⊕ h)
    (λ x d h l m n. rw (difference_sum (x ⊕ h) d (xor_lt 32 x h l n) m) (xor_xor x h))
    Hc128
redone Hc256 = step_redone Hc256

-- ---- the pass

module _ (c : Cipher) (s : List ℕ) where
  pub last_pass_area : Area c s → Area c (last_pass c s)
  unfolding last_pass
  last_pass_area = forward_kept (Area c) (change c) (change_back c) (forth_area c) s 0 (changes c)

  pub undo_last_pass_area : Area c s → Area c (undo_last_pass c s)
  unfolding undo_last_pass
  undo_last_pass_area = backward_kept (Area c) (change c) (change_back c) (back_area c) s 0 (changes c)

  pub last_pass_undone : Area c s → undo_last_pass c (last_pass c s) ≡ s
  unfolding last_pass undo_last_pass
  last_pass_undone = backward_forward (Area c) (change c) (change_back c) (forth_area c) (undone c) s 0 (changes c)

  pub last_pass_redone : Area c s → last_pass c (undo_last_pass c s) ≡ s
  unfolding last_pass undo_last_pass
  last_pass_redone = forward_backward (Area c) (change c) (change_back c) (back_area c) (redone c) s 0 (changes c)
