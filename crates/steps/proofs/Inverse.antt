-- n steps of either cipher and their inverse undo each other, both ways, from any step on, on every area.
use mathlib.Core.Path.{◌≡◌}
use mathlib.Core.List.{List}
use Prim.Native.Nat.{ℕ}
use Rattle.laws.proofs.Iterate.{forward_kept, backward_kept, backward_forward, forward_backward}
use Rattle.cipher.specs.declared.Cipher.{Cipher}
use Rattle.tables.specs.Area.{Area}
use Rattle.tables.specs.Step.{step, step_back}
use Rattle.tables.proofs.Inverse.{step_area, step_back_area, step_undone, step_redone}
use Rattle.steps.specs.Steps.{steps, steps_back}

module _ (c : Cipher) where
  pub steps_area : (s : List ℕ) (i n : ℕ) → Area c s → Area c (steps c s i n)
  steps_area = forward_kept (Area c) (step c) (step_back c) (step_area c)

  pub steps_back_area : (s : List ℕ) (i n : ℕ) → Area c s → Area c (steps_back c s i n)
  steps_back_area = backward_kept (Area c) (step c) (step_back c) (step_back_area c)

  pub steps_undone : (s : List ℕ) (i n : ℕ) → Area c s → steps_back c (steps c s i n) i n ≡ s
  steps_undone = backward_forward (Area c) (step c) (step_back c) (step_area c) (step_undone c)

  pub steps_redone : (s : List ℕ) (i n : ℕ) → Area c s → steps c (steps_back c s i n) i n ≡ s
  steps_redone = forward_backward (Area c) (step c) (step_back c) (step_back_area c) (step_redone c)
