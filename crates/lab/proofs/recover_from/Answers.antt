-- A load that is refused is the answer.
use Rattle.lab.proofs.Tasks.{recovered_refused}
use Rattle.lab.proofs.recover_from.Goals as goal

pub returns-in-Err : goal.returns-in-Err
returns-in-Err c = recovered_refused _ _ _ _ _ c.load_fresh-loaded.ensures _ _ _ c.in-Err.is
