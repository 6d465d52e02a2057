-- `varint::put_number` meets its contract: one group, two groups, or one group and the others by `write_number`.
use Rattle.std.proofs.Common.{ℕ, ◌/◌, ◌^◌, ◌<◌, ◌≤◌, refl, ap, length, arith, add-one}
use Rattle.std.proofs.Math.Numerals.{add-two}
use Rattle.std.proofs.Math.ListN.{length-set}
use Rattle.varint.specs.Number.{number}
use Rattle.varint.proofs.Groups.{number_last, number_more, number_some}
use Rattle.varint.proofs.put_number.Goals as goal

-- from 128 on there are two groups at least
two : (n : ℕ) → 128 ≤ n → n < 128 ^ 10 → 2 ≤ length (number n)
two n h l = let e = ap length (number_more n h l) in omega (arith, number_some (n / 128))

pub bounds-out-at : goal.bounds-out-at
bounds-out-at c = omega (arith, number_some c.args.value)

pub returns-then-value-lt128 : goal.returns-then-value-lt128
returns-then-value-lt128 c = rw (number_last c.args.value c.if-value-lt128.true) (refl, refl)

pub bounds-out-at-2 : goal.bounds-out-at-2
bounds-out-at-2 c = omega (arith, number_some c.args.value)

pub bounds-out-at-then-rest-lt128 : goal.bounds-out-at-then-rest-lt128
bounds-out-at-then-rest-lt128 c = simp length-set (omega (arith, two c.args.value c.if-value-lt128.false (omega arith)))

pub returns-then-rest-lt128 : goal.returns-then-rest-lt128
returns-then-rest-lt128 c =
    let a = c.args in
    rw (number_more a.value c.if-value-lt128.false (omega arith), number_last _ c.if-rest-lt128.true, add-one a.at, add-two a.at) (refl, refl)

pub write_number-requires : goal.write_number-requires
write_number-requires c =
    let e = ap length (number_more c.args.value c.if-value-lt128.false (omega arith)) in
    simp length-set (omega arith)

pub returns : goal.returns
returns c =
    let e = number_more c.args.value c.if-value-lt128.false (omega arith) in
    let w = c.write_number.ensures in
    (omega (arith, ap length e), rw e (rw (add-one c.args.at) at w.1))
