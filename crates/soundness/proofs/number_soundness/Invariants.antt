-- The loop of `soundness::number_soundness` keeps `Come`.
use Rattle.soundness.proofs.Places.{Come}
use Rattle.soundness.proofs.number_soundness.Given as goal

abbrev pub invariant-loop-next : goal.invariant-loop-next
invariant-loop-next l = Come l.string l.at l.range.most l.value l.weight l.next
