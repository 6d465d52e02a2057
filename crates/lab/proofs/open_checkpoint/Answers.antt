-- The move to 0 is the move back by the position.
use Rattle.std.proofs.Common.{◌∙◌}
use Rattle.lab.proofs.Tasks.{opened_is}
use Rattle.lab.proofs.open_checkpoint.Goals as goal

pub returns : goal.returns
returns c = c.load_and_move.ensures ∙ opened_is _ _
