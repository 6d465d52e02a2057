-- The loop's invariant: the changes from i + m on are undone, and next is the word at place k + m.
use Rattle.std.proofs.Common.{◌≡◌, ◌+◌, get_or}
use Rattle.laws.proofs.Loops.{Backward}
use Rattle.runs.proofs.retreat.Given as goal

abbrev pub invariant-loop-m : goal.invariant-loop-m
invariant-loop-m g l = record {
  back : Backward (g.C.Change.back l.change) l.fn.area l.area l.i l.m l.n;
  next_is : l.next ≡ get_or l.area (l.k + l.m) 0;
}
