-- `varint::read_number` meets its contract: the loop keeps `Come`, which says what each way out of it answers.
use Rattle.std.proofs.Common.{◌+◌, ◌-◌, get_or, arith}
use native.Mathlib.Nat.{mul_comm, add_assoc}
use Rattle.varint.proofs.Place.{comes_on, group_fits, none_left, ends, last_small, last_group}
use Rattle.varint.proofs.read_number.Goals as goal

pub returns-then-next-string : goal.returns-then-next-string
returns-then-next-string c =
    let l = c.loop-k in
    ends _ _ _ l.value l.weight l.least (c.args.at + l.k) l.k l.invariant c.loop-k-test.true c.if-next-string.true

pub returns-then-b-least : goal.returns-then-b-least
returns-then-b-least c =
    let l = c.loop-k in
    last_small _ _ _ l.value l.weight l.least (c.args.at + l.k) l.k l.invariant c.loop-k-test.true (omega (arith, l.invariant.inside)) c.if-b-lt128.true c.if-b-least.true

-- what a group adds fits: a last one, and one that announces another
pub overflow_mul-result : goal.overflow_mul-result
overflow_mul-result c =
    let l = c.loop-k in
    let f = group_fits _ _ c.args.most l.value l.weight l.least (c.args.at + l.k) l.k l.invariant c.loop-k-test.true c.requires.1 _ c.if-b-lt128.true in
    omega arith

pub overflow_add-result : goal.overflow_add-result
overflow_add-result c =
    let l = c.loop-k in
    let f = group_fits _ _ c.args.most l.value l.weight l.least (c.args.at + l.k) l.k l.invariant c.loop-k-test.true c.requires.1 _ c.if-b-lt128.true in
    omega arith

pub returns-then-b-lt128 : goal.returns-then-b-lt128
returns-then-b-lt128 c =
    let l = c.loop-k in
    last_group _ _ _ l.value l.weight l.least (c.args.at + l.k) l.k l.invariant c.loop-k-test.true (omega (arith, l.invariant.inside)) c.if-b-lt128.true c.if-b-least.false

pub overflow_mul-value : goal.overflow_mul-value
overflow_mul-value c =
    let l = c.loop-k in
    let b = c.type_inv.string (c.args.at + l.k) in
    let f = group_fits _ _ c.args.most l.value l.weight l.least (c.args.at + l.k) l.k l.invariant c.loop-k-test.true c.requires.1 (get_or c.args.string.now (c.args.at + l.k) 0 - 128) (omega arith) in
    omega arith

pub overflow_add-value : goal.overflow_add-value
overflow_add-value c =
    let l = c.loop-k in
    let b = c.type_inv.string (c.args.at + l.k) in
    let f = group_fits _ _ c.args.most l.value l.weight l.least (c.args.at + l.k) l.k l.invariant c.loop-k-test.true c.requires.1 (get_or c.args.string.now (c.args.at + l.k) 0 - 128) (omega arith) in
    omega arith

pub overflow_mul-weight : goal.overflow_mul-weight
overflow_mul-weight c =
    let l = c.loop-k in
    let b = c.type_inv.string (c.args.at + l.k) in
    let f = group_fits _ _ c.args.most l.value l.weight l.least (c.args.at + l.k) l.k l.invariant c.loop-k-test.true c.requires.1 (get_or c.args.string.now (c.args.at + l.k) 0 - 128) (omega arith) in
    omega arith

pub loop-k-preserved : goal.loop-k-preserved
loop-k-preserved c =
    let l = c.loop-k in
    rw (mul_comm l.weight 128, ← add_assoc c.args.at l.k 1)
    (comes_on _ _ _ l.value l.weight l.least (c.args.at + l.k) l.k l.invariant c.loop-k-test.true (omega (arith, l.invariant.inside)) c.if-b-lt128.false (let b = c.type_inv.string (c.args.at + l.k) in omega arith))

pub returns : goal.returns
returns c =
    let l = c.loop-k in
    none_left _ _ _ l.value l.weight l.least (c.args.at + l.k) l.k l.invariant c.loop-k-test.false
