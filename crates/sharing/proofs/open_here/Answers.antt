-- Where no condition refuses, the shares and what they leave.
use Rattle.std.proofs.Common.{◌≡◌, ◌+◌, ◌-◌, ◌≤◌, sym, ◌∙◌, arith}
use Rattle.conditions.specs.Limit.{limit}
use Rattle.sharing.proofs.Calls.{open_done}
use Rattle.sharing.proofs.open_here.Goals as goal

pub returns : goal.returns
returns c =
    let a = c.args in
    let sum = a.share0 + a.share1 + a.share2 + a.share3 in
    let left = limit - a.head.position in
    let rest : (sum ≤ left) × (c.in_ok-common.common ≡ left - sum) = grind arith in
    open_done _ _ _ _ _ _ _ (sym c.is_open.ensures ∙ c.if-is_open.false) _ (sym c.in_ok-ready_with_word.ensures.answer)
    c.in_ok-ready_with_word.ensures.within _ rest.0 rest.1
