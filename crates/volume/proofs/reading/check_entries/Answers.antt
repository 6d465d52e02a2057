-- `volume::reading::check_entries` meets its contract: entry by entry, and the place after the last is the string's end.
use Rattle.std.proofs.Common.{sym, ◌∙◌, arith}
use Rattle.std.proofs.lemmas.Result.{err_from_is_err_and}
use Rattle.volume.proofs.EntryByEntry.{only_turns, only_refused, only_ends, at_end, before_end}
use Rattle.volume.proofs.reading.check_entries.Goals as goal

pub returns-in_err-found : goal.returns-in_err-found
returns-in_err-found c =
    let l = c.loop-k in
    let p = err_from_is_err_and c.from_residual.result c.from_residual.ensures.1 in
    rw (p.1, p.2) (sym (only_refused _ _ _ l.k _ _ l.invariant.1 c.loop-k-test.true (sym c.in_err-found.ensures.entry)))

pub loop-k-preserved : goal.loop-k-preserved
loop-k-preserved c =
    let l = c.loop-k in
    let found = c.in_ok-found.ensures in
    (found.within, only_turns _ _ _ l.k _ _ l.invariant.1 c.loop-k-test.true (sym found.entry))

pub returns-then-at-string : goal.returns-then-at-string
returns-then-at-string c =
    let l = c.loop-k in
    let e = only_ends _ _ _ l.k _ _ l.invariant.1 (omega arith) in
    sym (e ∙ rw (before_end c.args.string.now l.at (omega arith)))

pub returns : goal.returns
returns c =
    let l = c.loop-k in
    let e = only_ends _ _ _ l.k _ _ l.invariant.1 (omega arith) in
    sym (e ∙ rw (at_end c.args.string.now l.at (omega arith)))
