-- The loop's invariant: the area has taken k changes.
use Rattle.std.proofs.Common.{◌-◌}
use Rattle.laws.proofs.Loops.{Forward}
use Rattle.steps.proofs.advance_with.Given as goal

abbrev pub invariant-loop-k : goal.invariant-loop-k
invariant-loop-k g l = Forward (g.C.Change.forth l.change) l.fn.area l.area l.i l.k l.n

abbrev pub decreases-loop-k : goal.decreases-loop-k
decreases-loop-k g l = l.n - l.k
