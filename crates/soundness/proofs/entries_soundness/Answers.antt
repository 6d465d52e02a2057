-- `soundness::entries_soundness` meets its contract: entry by entry, and the place after the last is the string's end.
use Rattle.std.proofs.Common.{sym, ◌∙◌, arith}
use Rattle.soundness.proofs.Places.{left_turns, left_stops, bytes_after, nothing_after}
use Rattle.soundness.proofs.entries_soundness.Goals as goal

pub returns-in_default : goal.returns-in_default
returns-in_default c =
    let l = c.loop-k in
    c.entry_soundness.ensures ∙ sym (left_stops _ _ _ l.k _ l.invariant.1 c.loop-k-test.true (sym c.in_default.ensures.entry))

pub loop-k-preserved : goal.loop-k-preserved
loop-k-preserved c =
    let l = c.loop-k in
    let found = c.in-Ok.ensures in
    (found.within, left_turns _ _ _ l.k _ l.invariant.1 c.loop-k-test.true (sym found.entry))

pub returns-then-at-string : goal.returns-then-at-string
returns-then-at-string c =
    let l = c.loop-k in
    bytes_after _ _ _ l.k l.at l.invariant.1 (omega arith) (omega arith)

pub returns : goal.returns
returns c =
    let l = c.loop-k in
    nothing_after _ _ _ l.k l.at l.invariant.1 (omega arith) (omega arith)
