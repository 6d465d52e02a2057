-- The write is made on what set up and move left.
use Rattle.lab.specs.Tasks.{write_at}
use Rattle.lab.proofs.Tasks.{written_after}
use Rattle.lab.proofs.write_at.Goals as goal

pub returns : goal.returns
unfolding write_at
returns c = written_after _ _ _ _ _ c.set_up_at-moved.ensures c.write_after.ensures
