-- The loop ends because the position grows and stays within the limit.
use Rattle.std.proofs.Common.{◌-◌}
use Rattle.conditions.specs.Limit.{limit}
use Rattle.hullerbamboo.proofs.log.turns.Given as goal

abbrev pub decreases-loop-next : goal.decreases-loop-next
decreases-loop-next g l = limit - l.head.position
