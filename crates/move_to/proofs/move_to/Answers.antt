-- A position over the limit is refused whatever the distance, and else the distance fits 64 bits.
use Rattle.std.proofs.Common.{◌∙◌, arith}
use Rattle.move_to.proofs.Moves.{from_over, to_over, by_distance, distance_fits, distance_is}
use Rattle.move_to.proofs.move_to.Goals as goal

pub returns-then-here-gt-LIMIT : goal.returns-then-here-gt-LIMIT
returns-then-here-gt-LIMIT c = c.move_by.ensures ∙ from_over _ _ _ _ c.if-here-gt-LIMIT.true

pub returns-then-position-gt-LIMIT : goal.returns-then-position-gt-LIMIT
returns-then-position-gt-LIMIT c = c.move_by-then-position-gt-LIMIT.ensures ∙ to_over _ _ _ _ c.if-position-gt-LIMIT.true (omega arith)

pub overflow_sub-position : goal.overflow_sub-position
overflow_sub-position c = distance_fits _ _ c.if-position-gt-LIMIT.false c.if-here-gt-LIMIT.false

pub returns : goal.returns
returns c =
    c.move_by-2.ensures
    ∙ by_distance _ _ _ _ (distance_is _ _ c.if-position-gt-LIMIT.false c.if-here-gt-LIMIT.false)
