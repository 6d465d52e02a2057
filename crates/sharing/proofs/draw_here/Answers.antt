-- Where the share account gives the line its bytes, the draw is as the cipher call is, and the bytes are taken from the account.
use Rattle.std.proofs.Common.{refl, sym}
use Rattle.std.proofs.lemmas.Result.{err_from_is_err_and}
use Rattle.engine.proofs.Outcomes.{never_0}
use Rattle.sharing.proofs.Calls.{given, draw_refused, draw_done}
use Rattle.sharing.proofs.draw_here.Goals as goal

pub returns-in_err-next : goal.returns-in_err-next
returns-in_err-next c =
    let a = c.args in
    let p = err_from_is_err_and c.from_residual-in_err-next.result c.from_residual-in_err-next.ensures.1 in
    rw (p.1, p.2)
    (draw_refused a.account.now a.head.now a.area.now a.line a.bytes.now (sym c.if-not-is_open.ensures) c.in_default.ensures _ _ _ _
    (rw c.in_err-next.was at c.cipher-next.ensures) (never_0 _))

pub take_share-requires : goal.take_share-requires
take_share-requires c = given c.args.account.now c.args.line _ c.in_default.ensures

pub returns : goal.returns
returns c =
    let a = c.args in
    draw_done a.account.now a.head.now a.area.now a.line a.bytes.now (sym c.if-not-is_open.ensures) c.in_default.ensures _ _ _ _
    (rw c.in_ok-next.was at c.cipher-next.ensures) refl _ c.take_share.ensures
