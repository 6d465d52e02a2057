-- `volume::reading::number_at` meets its contract: what `read_number` reads.
use Rattle.std.proofs.Common.{arith}
use Rattle.volume.proofs.Values.{number_again, none_again, number_fits}
use Rattle.volume.proofs.reading.number_at.Goals as goal

pub overflow_cast-result : goal.overflow_cast-result
overflow_cast-result c =
    omega (arith, number_fits c.args.string.now c.args.at c.in-Ok.found (λ i. let b = c.type_inv.string i in omega arith) c.in-Ok.ensures.0)

pub returns-in-Ok : goal.returns-in-Ok
returns-in-Ok c = (number_again c.args.string.now c.args.at _ c.in-Ok.ensures.0, c.in-Ok.ensures.1.1)

pub returns-in-Err : goal.returns-in-Err
returns-in-Err c = (none_again c.args.string.now c.args.at _ (record { value = 0; next = 0 }) c.in-Err.ensures.0, omega arith)
