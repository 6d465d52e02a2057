-- `volume::check_volume` meets its contract: it is the refusal of the count.
use Rattle.std.proofs.lemmas.Result.{err_from_is_err_and}
use Rattle.volume.proofs.Volumes.{unread, is_read}
use Rattle.volume.proofs.check_volume.Goals as goal

pub returns-in_err-count_entries : goal.returns-in_err-count_entries
returns-in_err-count_entries c =
    let p = err_from_is_err_and c.from_residual.result c.from_residual.ensures.1 in
    rw (p.1, p.2) (unread c.args.string.now _ c.in_err-count_entries.ensures.count)

pub returns : goal.returns
returns c = is_read c.args.string.now _ c.in_ok-count_entries.ensures.count
