-- `varint::write_number` meets its contract: it writes the groups of `number`.
use Rattle.std.proofs.Common.{refl, ap, length, arith, add-one}
use Rattle.std.proofs.Math.ListN.{length-set}
use Rattle.varint.proofs.Groups.{number_last, number_more, number_some}
use Rattle.varint.proofs.+write_number.Goals as goal

pub bounds-out-at : goal.bounds-out-at
bounds-out-at t c = omega (arith, number_some c.args.n)

pub returns-then-n-lt128 : goal.returns-then-n-lt128
returns-then-n-lt128 t c = rw (number_last c.args.n c.if-n-lt128.true) (refl, refl)

pub bounds-out-at-2 : goal.bounds-out-at-2
bounds-out-at-2 t c = omega (arith, number_some c.args.n)

pub write_number-requires : goal.write_number-requires
write_number-requires t c =
    let e = ap length (number_more c.args.n c.if-n-lt128.false (omega arith)) in
    (omega arith, simp length-set (omega arith))

pub returns : goal.returns
returns t c =
    let e = number_more c.args.n c.if-n-lt128.false (omega arith) in
    let w = c.write_number.ensures in
    (omega (arith, ap length e), rw e (rw (add-one c.args.at) at w.1))
