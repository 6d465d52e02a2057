-- A load that is refused is the answer.
use Rattle.lab.proofs.Tasks.{moved_refused}
use Rattle.lab.proofs.load_and_move.Goals as goal

pub returns-in-Err : goal.returns-in-Err
returns-in-Err c = moved_refused _ _ _ _ _ c.load_fresh-loaded.ensures _ _ c.in-Err.is
