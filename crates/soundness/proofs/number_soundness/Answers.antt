-- `soundness::number_soundness` meets its contract: the loop keeps `Come`, which says what each way out of it answers.
use Rattle.soundness.proofs.Places.{comes_on, last, beyond, ends}
use Rattle.soundness.proofs.number_soundness.Goals as goal

pub returns-then-group-lt128 : goal.returns-then-group-lt128
returns-then-group-lt128 c =
    let l = c.loop-next in
    last _ _ _ l.value l.weight l.next l.invariant c.loop-next-test.true c.if-group-lt128.true

pub returns-then-range-least : goal.returns-then-range-least
returns-then-range-least c =
    let l = c.loop-next in
    beyond _ _ _ l.value l.weight l.next l.invariant c.loop-next-test.true c.if-group-lt128.false c.if-range-least.true

pub loop-next-preserved : goal.loop-next-preserved
loop-next-preserved c =
    let l = c.loop-next in
    comes_on _ _ _ l.value l.weight l.next l.invariant c.loop-next-test.true c.if-group-lt128.false c.if-range-least.false

pub returns : goal.returns
returns c =
    let l = c.loop-next in
    ends _ _ _ l.value l.weight l.next l.invariant c.loop-next-test.false
