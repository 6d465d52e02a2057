-- `rates::read_pair` meets its contract: product and rate in reading order.
use Rattle.std.proofs.Common.{sym}
use Rattle.std.proofs.lemmas.Result.{err_from_is_err_and}
use borrow.Author.Tests.{lt-ltb, le-ltb}
use Rattle.rates.specs.Calls.{read_pair}
use Rattle.rates.proofs.read_pair.Goals as goal

pub returns-in_err-product-clause-pair : goal.returns-in_err-product-clause-pair
unfolding read_pair
returns-in_err-product-clause-pair c =
    let p = err_from_is_err_and c.from_residual.result c.from_residual.ensures.1 in
    rw (p.1, p.2, sym c.in_err-product.ensures.value)

pub returns-then-product-last-clause-pair : goal.returns-then-product-last-clause-pair
unfolding read_pair
returns-then-product-last-clause-pair c =
    rw (sym c.in_ok-product.ensures.value, le-ltb c.args.last c.in_ok-product.product.value c.if-product-last.true)

pub returns-in_err-rate-clause-pair : goal.returns-in_err-rate-clause-pair
unfolding read_pair
returns-in_err-rate-clause-pair c =
    let p = err_from_is_err_and c.from_residual-in_err-rate.result c.from_residual-in_err-rate.ensures.1 in
    rw (
      p.1,
      p.2,
      sym c.in_ok-product.ensures.value,
      lt-ltb c.args.last c.in_ok-product.product.value c.if-product-last.false,
      sym c.in_err-rate.ensures.value,
    )

pub returns-clause-pair : goal.returns-clause-pair
unfolding read_pair
returns-clause-pair c =
    rw (
      sym c.in_ok-product.ensures.value,
      lt-ltb c.args.last c.in_ok-product.product.value c.if-product-last.false,
      sym c.in_ok-rate.ensures.value,
    )
