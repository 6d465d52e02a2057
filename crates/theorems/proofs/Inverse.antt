-- The way back is the exact inverse. Assumes nothing.
use Rattle.tables.proofs.Inverse.{step_undone, step_redone}
use Rattle.last_pass.proofs.Inverse.{last_pass_undone, last_pass_redone}
use Rattle.steps.proofs.Inverse.{steps_undone, steps_redone}
use Rattle.setup.proofs.Inverse.{set_up_undone, set_up_redone, set_up_unique, undo_none, none_undo}
use Rattle.theorems.specs.Inverse.{Inverse}

pub inverse : Inverse
inverse = record {
  step_undone = step_undone;
  step_redone = step_redone;
  steps_undone = steps_undone;
  steps_redone = steps_redone;
  last_pass_undone = last_pass_undone;
  last_pass_redone = last_pass_redone;
  set_up_undone = set_up_undone;
  set_up_redone = set_up_redone;
  set_up_unique = set_up_unique;
  none_exactly = λ c s area. (undo_none c s area, none_undo c s area);
}
