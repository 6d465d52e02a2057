-- `volume::reading::count_entries` meets its contract: the first number, then the entries.
use Rattle.std.proofs.lemmas.Result.{err_from_is_err_and}
use Rattle.volume.proofs.Counting.{counts_no_number, counts_no_entries, counts, begins}
use Rattle.volume.proofs.reading.count_entries.Goals as goal

pub returns-in_err-count-clause-count : goal.returns-in_err-count-clause-count
returns-in_err-count-clause-count c =
    let p = err_from_is_err_and c.from_residual.result c.from_residual.ensures.1 in
    rw (p.1, p.2) (counts_no_number c.args.string.now _ c.in_err-count.ensures.value)

pub returns-in_err-check_entries-clause-count : goal.returns-in_err-check_entries-clause-count
returns-in_err-check_entries-clause-count c =
    let p = err_from_is_err_and c.from_residual-in_err-check_entries.result c.from_residual-in_err-check_entries.ensures.1 in
    rw (p.1, p.2) (counts_no_entries c.args.string.now c.in_ok-count.count c.in_ok-count.ensures.value _ c.in_err-check_entries.ensures)

pub returns-clause-count : goal.returns-clause-count
returns-clause-count c =
    counts c.args.string.now c.in_ok-count.count c.in_ok-count.ensures.value c.in_ok-check_entries.ensures

pub returns-clause-begins : goal.returns-clause-begins
returns-clause-begins c = begins c.args.string.now c.in_ok-count.count c.in_ok-count.ensures.value c.in_ok-count.ensures.within
