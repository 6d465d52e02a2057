-- What a turn of the loop over a log leaves, so that the loop ends.
use Rattle.std.specs.Prelude.{◌≤◌, ◌<◌}
use Rattle.std.specs.declared.ops.ControlFlow.{ControlFlow}
use Rattle.std.specs.declared.ops.ControlFlow.TheVariants.{Continue, Break}
use Rattle.engine.specs.declared.Head.{Head}
use Rattle.conditions.specs.Limit.{limit}

-- where there is more to do, the position has grown, and is within the limit
abbrev pub Grows : Head → ControlFlow Head Head → Type 0
Grows before (Continue after) = (before.position < after.position) × (after.position ≤ limit)
Grows before (Break _) = Unit {0}
