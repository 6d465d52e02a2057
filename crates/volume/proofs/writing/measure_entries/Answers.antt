-- `volume::writing::measure_entries` meets its contract: entry by entry, each of which is in range.
use Rattle.std.proofs.Common.{◌∙◌, not, sym, ap, arith, length}
use Rattle.volume.proofs.Measuring.{four_and_rest, measured_more, measured_refused, measured_all}
use Rattle.volume.proofs.writing.measure_entries.Goals as goal

pub returns-then-not-in_range-clause-measured : goal.returns-then-not-in_range-clause-measured
returns-then-not-in_range-clause-measured c =
    let l = c.loop-numbers in
    let next = four_and_rest c.in-Some.ensures.steps.1.0 c.entry_of-entry.ensures in
    sym (measured_refused _ _ l.length l.invariant.2 _ _ next _ c.in_range.ensures (ap not c.if-not-in_range.true))

pub loop-numbers-preserved : goal.loop-numbers-preserved
loop-numbers-preserved c =
    let l = c.loop-numbers in
    let steps = c.in-Some.ensures.steps in
    let next = four_and_rest steps.1.0 c.entry_of-entry.ensures in
    let bytes = c.entry_bytes-length.ensures in (
      steps.0 ∙ l.invariant.0,
      omega (arith, ap length next, l.invariant.1, bytes.1),
      measured_more _ _ l.length l.invariant.2 _ _ next _ c.in_range.ensures _ (ap not c.if-not-in_range.false) bytes.0,
    )

pub returns-clause-measured : goal.returns-clause-measured
returns-clause-measured c =
    let l = c.loop-numbers in
    sym (measured_all _ _ l.length l.invariant.2 (omega (arith, l.invariant.0, c.in-None.ensures.steps.1.0)))
