-- `volume::reading::check_entry` meets its contract: the four numbers in reading order.
use Rattle.std.proofs.Common.{sym}
use Rattle.std.proofs.lemmas.Result.{err_from_is_err_and}
use Rattle.volume.specs.Calls.{read_entry}
use Rattle.volume.proofs.reading.check_entry.Goals as goal

pub returns-in_err-minutes-clause-entry : goal.returns-in_err-minutes-clause-entry
unfolding read_entry
returns-in_err-minutes-clause-entry c =
    let p = err_from_is_err_and c.from_residual.result c.from_residual.ensures.1 in
    rw (p.1, p.2, sym c.in_err-minutes.ensures.value)

pub returns-in_err-litres-clause-entry : goal.returns-in_err-litres-clause-entry
unfolding read_entry
returns-in_err-litres-clause-entry c =
    let p = err_from_is_err_and c.from_residual-in_err-litres.result c.from_residual-in_err-litres.ensures.1 in
    rw (p.1, p.2, sym c.in_ok-minutes.ensures.value, sym c.in_err-litres.ensures.value)

pub returns-in_err-ratio-clause-entry : goal.returns-in_err-ratio-clause-entry
unfolding read_entry
returns-in_err-ratio-clause-entry c =
    let p = err_from_is_err_and c.from_residual-in_err-ratio.result c.from_residual-in_err-ratio.ensures.1 in
    rw (p.1, p.2, sym c.in_ok-minutes.ensures.value, sym c.in_ok-litres.ensures.value, sym c.in_err-ratio.ensures.value)

pub returns-in_err-product-clause-entry : goal.returns-in_err-product-clause-entry
unfolding read_entry
returns-in_err-product-clause-entry c =
    let p = err_from_is_err_and c.from_residual-in_err-product.result c.from_residual-in_err-product.ensures.1 in
    rw (
      p.1,
      p.2,
      sym c.in_ok-minutes.ensures.value,
      sym c.in_ok-litres.ensures.value,
      sym c.in_ok-ratio.ensures.value,
      sym c.in_err-product.ensures.value,
    )

pub returns-clause-entry : goal.returns-clause-entry
unfolding read_entry
returns-clause-entry c =
    rw (sym c.in_ok-minutes.ensures.value, sym c.in_ok-litres.ensures.value, sym c.in_ok-ratio.ensures.value, sym c.in_ok-product.ensures.value)
