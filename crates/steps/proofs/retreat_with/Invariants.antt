-- The loop's invariant: the changes from i + k on are undone.
use Rattle.laws.proofs.Loops.{Backward}
use Rattle.steps.proofs.retreat_with.Given as goal

abbrev pub invariant-loop-k : goal.invariant-loop-k
invariant-loop-k g l = Backward (g.C.Change.back l.change) l.fn.area l.area l.i l.k l.n

abbrev pub decreases-loop-k : goal.decreases-loop-k
decreases-loop-k g l = l.k
