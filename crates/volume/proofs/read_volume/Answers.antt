-- `volume::read_volume` meets its contract: the volume is counted first, and stored then.
use Rattle.std.proofs.Common.{arith}
use Rattle.std.proofs.lemmas.Result.{err_from_is_err_and}
use Rattle.volume.specs.Calls.{read_volume_call}
use Rattle.volume.proofs.Volumes.{reads_refused, reads_short, reads_all}
use Rattle.volume.proofs.read_volume.Goals as goal

pub returns-in_err-found : goal.returns-in_err-found
unfolding read_volume_call
returns-in_err-found c =
    let a = c.args in
    let p = err_from_is_err_and c.from_residual.result c.from_residual.ensures.1 in
    rw (p.1, p.2, reads_refused a.string.now a.list.now _ c.in_err-found.ensures.count)

pub returns-then-list-n : goal.returns-then-list-n
unfolding read_volume_call
returns-then-list-n c =
    let a = c.args in
    rw (reads_short a.string.now a.list.now c.in_ok-found.found c.in_ok-found.ensures.count c.if-list-n.true)

pub returns : goal.returns
unfolding read_volume_call
returns c =
    let a = c.args in
    let found = c.in_ok-found.ensures in
    rw (reads_all a.string.now a.list.now c.in_ok-found.found found.count _ found.begins (omega arith) c.store_entries.ensures)
