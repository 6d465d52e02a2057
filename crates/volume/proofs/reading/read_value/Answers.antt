-- `volume::reading::read_value` meets its contract: what `read_number` reads, in its range.
use Rattle.std.proofs.Common.{sym, ◌∙◌, arith}
use Rattle.volume.specs.Calls.{read_value}
use Rattle.volume.proofs.Values.{number_fits}
use Rattle.volume.proofs.reading.read_value.Goals as goal

pub returns-in-Err-Ended-clause-value : goal.returns-in-Err-Ended-clause-value
unfolding read_value
returns-in-Err-Ended-clause-value c = rw (sym c.in-Err-Ended.ensures.0, c.in-Err-Ended.field-0-is)

pub returns-in-Err-Malformed-clause-value : goal.returns-in-Err-Malformed-clause-value
unfolding read_value
returns-in-Err-Malformed-clause-value c = rw (sym c.in-Err-Malformed.ensures.0, c.in-Err-Malformed.field-0-is)

pub overflow_cast-result : goal.overflow_cast-result
overflow_cast-result c =
    omega (arith, number_fits c.args.string.now c.args.at c.in-Ok.read (λ i. let b = c.type_inv.string i in omega arith) c.in-Ok.ensures.0)

pub returns-then-not-contains-clause-value : goal.returns-then-not-contains-clause-value
unfolding read_value
returns-then-not-contains-clause-value c = rw (sym c.in-Ok.ensures.0, sym c.contains.ensures ∙ c.if-not-contains.true)

pub returns-clause-value : goal.returns-clause-value
unfolding read_value
returns-clause-value c = rw (sym c.in-Ok.ensures.0, sym c.contains.ensures ∙ c.if-not-contains.false)
