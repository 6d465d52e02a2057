-- Each turn moves the window one word back, as `previous` does.
use Rattle.std.proofs.Common.{◌≡◌, arith, sym, ◌∙◌}
use Rattle.laws.proofs.Iterate.{backward_less, backward_none}
use Rattle.schedule.specs.Window.{previous}
use Rattle.schedule.proofs.unexpand.Goals as goal

pub loop-k-preserved : goal.loop-k-preserved
unfolding previous
loop-k-preserved c = rw c.previous_word.ensures (sym (backward_less previous _ _ _ c.loop-k-test.true) ∙ c.loop-k.invariant)

pub returns : goal.returns
returns c =
    let e : c.loop-k.k ≡ 0 = omega arith in
    sym (backward_none previous _ _) ∙ (rw e at c.loop-k.invariant)
