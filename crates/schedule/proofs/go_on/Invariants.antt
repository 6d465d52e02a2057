-- The loop's invariant: the words before place 4j are made, and the last two of them are carried.
use Rattle.std.proofs.Common.{◌*◌}
use Rattle.schedule.proofs.Run.{Going}
use Rattle.schedule.proofs.go_on.Given as goal

abbrev pub invariant-loop-j : goal.invariant-loop-j
invariant-loop-j l = Going l.n l.initial.words (4 * l.j) l.words l.w2 l.w1
