-- Refused as the set up is, or set up and then the calls.
use Rattle.std.proofs.Common.{refl}
use Rattle.std.proofs.lemmas.Result.{err_from_is_err_and}
use Rattle.engine.proofs.Outcomes.{never_0}
use Rattle.test_load.proofs.Loads.{set_up_refused, calls_run}
use Rattle.test_load.proofs.load_here.Goals as goal

pub returns-in_err-start : goal.returns-in_err-start
returns-in_err-start c =
    let a = c.args in
    let p = err_from_is_err_and c.from_residual.result c.from_residual.ensures.1 in
    rw (p.1, p.2)
    (set_up_refused a.head.now a.seed a.count a.code a.key.now a.iv.now a.area.now c.if-seed-eq0.false c.if-count-gt-MOST_CALLS.false _ _ _
    (rw c.in_err-start.was at c.set_up-start.ensures) (never_0 _))

pub returns : goal.returns
returns c =
    let a = c.args in
    calls_run a.head.now a.seed a.count a.code a.key.now a.iv.now a.area.now c.if-seed-eq0.false c.if-count-gt-MOST_CALLS.false _ _ _
    (rw c.in_ok-start.was at c.set_up-start.ensures) _ _ refl c.run_calls.ensures
