-- The first window, moved back, is the area's origin.
use Rattle.std.proofs.Common.{◌≡◌, refl}
use Rattle.schedule.specs.Origin.{origin, is_filled}
use Rattle.schedule.proofs.Window.{origin_window}
use Rattle.schedule.proofs.origin.Goals as goal

pub returns-then-filled : goal.returns-then-filled
unfolding is_filled
returns-then-filled c =
    let first = rw c.unwrap.ensures at c.first_chunk.ensures.cases in
    let w : c.unexpand-words.result ≡ origin c.args.cipher c.args.area.now =
    origin_window c.args.cipher c.args.area.now _ _ _ c.requires c.half_table-half.ensures.0 first.same c.unexpand-words.ensures in
    let f = rw (c.is_expansion.ensures, c.doubled.ensures, w) at c.if-filled.true in
    rw (f, w) refl

pub returns-else-filled : goal.returns-else-filled
unfolding is_filled
returns-else-filled c =
    let first = rw c.unwrap.ensures at c.first_chunk.ensures.cases in
    let w : c.unexpand-words.result ≡ origin c.args.cipher c.args.area.now =
    origin_window c.args.cipher c.args.area.now _ _ _ c.requires c.half_table-half.ensures.0 first.same c.unexpand-words.ensures in
    let f = rw (c.is_expansion.ensures, c.doubled.ensures, w) at c.if-filled.false in
    rw (f, w) refl
