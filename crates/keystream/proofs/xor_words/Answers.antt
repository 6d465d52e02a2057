-- In each turn one step is taken, or a run of as many whole fours as are left and as none of the five wraps in.
use Rattle.std.proofs.Common.{◌≡◌, ℕ, ◌-◌, ◌%◌, ◌<◌, ◌≤◌, min, arith, ◌∙◌}
use Rattle.cipher.specs.Numbers.{table_length}
use Rattle.carried.specs.Runs.{NoneWraps}
use Rattle.carried.proofs.Five.{none_wraps_fewer}
use Rattle.carried.proofs.Steps.{five_within, five_index, before_wrap_lem}
use Rattle.keystream.proofs.Calls.{call_start, call_one, call_run, call_next}
use Rattle.keystream.proofs.xor_words.Goals as goal

fours : (l b m : ℕ) → m ≡ min l b → 4 ≤ m → (0 < m - m % 4) × (m - m % 4 ≤ l) × (m - m % 4 ≤ b) × ((m - m % 4) % 4 ≡ 0)
fours l b m e h = (omega arith, omega arith, omega arith, omega arith)

pub loop-k-init : goal.loop-k-init
loop-k-init c = call_start _ _ _ _ _ _ _ c.requires.1

pub before_wrap-requires : goal.before_wrap-requires
before_wrap-requires c = five_within c.args.cipher c.args.i _ c.loop-k.invariant.1

pub xor_one-requires : goal.xor_one-requires
xor_one-requires c =
    let l = c.loop-k in (
      l.invariant.0.0.sized ∙ c.requires.0,
      five_within c.args.cipher c.args.i _ l.invariant.1,
      omega (arith, c.loop-k-test.true, l.invariant.0.1.sized, c.requires.3),
    )

pub next_five-next-requires : goal.next_five-next-requires
next_five-next-requires c =
    let v = c.loop-k.invariant in (
      none_wraps_fewer _ _ _ _ (before_wrap_lem c.args.cipher c.args.i _ v.1) (omega (arith, c.min-m.ensures, c.before_wrap.ensures)),
      five_index c.args.cipher c.args.i _ v.1,
      omega (arith, c.loop-k-test.true, c.requires.2),
    )

pub loop-k-preserved-then-m-lt4 : goal.loop-k-preserved-then-m-lt4
loop-k-preserved-then-m-lt4 c =
    let one = c.xor_one in
    let v = c.loop-k.invariant in
    call_one _ _ _ _ _ _ _ v c.changes_p-p.ensures c.loop-k-test.true one.ensures.0 one.auto.area one.ensures.1 one.auto.bytes
    (call_next _ _ _ _ _ _ _ v c.next_five-next.ensures)

pub xor_run-next-requires : goal.xor_run-next-requires
xor_run-next-requires c =
    let l = c.loop-k in
    let v = fours _ _ _ c.min-m.ensures c.if-m-lt4.false in (
      l.invariant.0.0.sized ∙ c.requires.0,
      none_wraps_fewer _ _ _ _ (before_wrap_lem c.args.cipher c.args.i _ l.invariant.1) (omega (arith, v.2, c.before_wrap.ensures)),
      v.3,
      omega (arith, v.1, c.loop-k-test.true, l.invariant.0.1.sized, c.requires.3),
    )

pub loop-k-preserved : goal.loop-k-preserved
loop-k-preserved c =
    let run = c.xor_run-next in
    let v = fours _ _ _ c.min-m.ensures c.if-m-lt4.false in
    let n = c.min-m.result - c.min-m.result % 4 in
    let none : NoneWraps (table_length c.args.cipher) c.loop-k.next.five n =
    none_wraps_fewer _ _ _ _ (before_wrap_lem c.args.cipher c.args.i _ c.loop-k.invariant.1) (omega (arith, v.2, c.before_wrap.ensures)) in
    call_run _ _ _ _ _ _ _ c.loop-k.invariant c.changes_p-p.ensures _ v.0 (omega (arith, v.1, c.loop-k-test.true)) none
    run.ensures run.auto.area run.auto.bytes
