-- The write is made where the calls before were accepted.
use Rattle.lab.proofs.Tasks.{written_made}
use Rattle.lab.proofs.write_after.Goals as goal

pub returns-in-Ok : goal.returns-in-Ok
returns-in-Ok c = written_made _ _ _ _ c.in-Ok.is _ _ _ c.write.ensures
