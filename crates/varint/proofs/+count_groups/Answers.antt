-- `varint::count_groups` meets its contract: it counts the groups of `number`.
use Rattle.std.proofs.Common.{ap, length, arith}
use Rattle.varint.proofs.Groups.{number_last, number_more, number_length}
use Rattle.varint.proofs.+count_groups.Goals as goal

pub returns-then-n-lt128 : goal.returns-then-n-lt128
returns-then-n-lt128 t c = let e = ap length (number_last c.args.n c.if-n-lt128.true) in (omega arith, omega arith)

pub returns : goal.returns
returns t c =
    let n = c.args.n in
    let e = ap length (number_more n c.if-n-lt128.false (omega arith)) in
    let l = number_length 10 n (omega arith) (omega arith) (omega arith) in
    (omega arith, omega arith)
