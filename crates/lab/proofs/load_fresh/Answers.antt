-- It is the engine's load of a fresh head.
use Rattle.lab.proofs.Tasks.{loaded_is}
use Rattle.lab.proofs.load_fresh.Goals as goal

pub returns : goal.returns
returns c = rw c.and.ensures (loaded_is _ _ _ _ _ _ c.fresh.ensures c.load-loaded.ensures)
