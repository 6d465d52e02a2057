-- The loop's invariant: the area has taken m changes.
use Rattle.laws.proofs.Loops.{Forward}
use Rattle.runs.proofs.advance.Given as goal

abbrev pub invariant-loop-m : goal.invariant-loop-m
invariant-loop-m g l = Forward (g.C.Change.forth l.change) l.fn.area l.area l.i l.m l.n
