-- A set up that is refused is the answer.
use Rattle.lab.proofs.Tasks.{started_refused}
use Rattle.lab.proofs.set_up_at.Goals as goal

pub returns-in-Err : goal.returns-in-Err
returns-in-Err c = started_refused _ _ _ _ _ _ _ _ _ c.fresh.ensures c.set_up-started.ensures _ c.in-Err.is
