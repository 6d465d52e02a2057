-- The loop's invariant: what the window still has to go back leads to the end.
use Rattle.std.proofs.Common.{◌≡◌}
use Rattle.laws.specs.Iterate.{backward}
use Rattle.schedule.specs.Window.{previous}
use Rattle.schedule.proofs.unexpand.Given as goal

abbrev pub invariant-loop-k : goal.invariant-loop-k
invariant-loop-k l = backward previous l.v l.i l.k ≡ backward previous l.initial.v l.i l.n
