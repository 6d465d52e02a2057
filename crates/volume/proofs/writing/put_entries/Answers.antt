-- `volume::writing::put_entries` meets its contract: entry by entry, from the place after the one before.
use Rattle.std.proofs.Common.{◌∙◌, arith}
use Rattle.volume.proofs.Measuring.{four_and_rest, put_room, put_more, put_all}
use Rattle.volume.proofs.writing.put_entries.Goals as goal

pub put_entry-at-requires : goal.put_entry-at-requires
put_entry-at-requires c =
    let l = c.loop-numbers in
    let next = four_and_rest c.in-Some.ensures.steps.1.0 c.entry_of.ensures in
    put_room _ _ _ _ l.at l.lent l.invariant.1 _ _ next c.requires

pub loop-numbers-preserved : goal.loop-numbers-preserved
loop-numbers-preserved c =
    let l = c.loop-numbers in
    let steps = c.in-Some.ensures.steps in
    let next = four_and_rest steps.1.0 c.entry_of.ensures in
    let put = c.put_entry-at in
    (steps.0 ∙ l.invariant.0, put_more _ _ _ _ l.at l.lent l.invariant.1 _ _ next _ _ put.auto.lent put.ensures.0 put.ensures.1)

pub returns : goal.returns
returns c =
    let l = c.loop-numbers in
    put_all _ _ _ _ l.at l.lent l.invariant.1 (omega (arith, l.invariant.0, c.in-None.ensures.steps.1.0))
