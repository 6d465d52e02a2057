-- The write is made on what load and move left.
use Rattle.lab.specs.Tasks.{rewrite_at}
use Rattle.lab.proofs.Tasks.{written_after}
use Rattle.lab.proofs.rewrite_at.Goals as goal

pub returns : goal.returns
unfolding rewrite_at
returns c = written_after _ _ _ _ _ c.load_and_move-moved.ensures c.write_after.ensures
