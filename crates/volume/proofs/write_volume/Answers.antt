-- `volume::write_volume` meets its contract: the refusals in order, then the count and the entries.
use Rattle.std.proofs.Common.{◌≡◌, ◌∙◌, ◌/◌, length, sym, arith}
use Rattle.std.proofs.lemmas.Result.{err_from_is_err_and}
use Rattle.varint.specs.Number.{number}
use Rattle.volume.specs.Calls.{write_volume_call}
use Rattle.volume.proofs.Written.{writes_part, writes_many, writes_out_of_range, writes_short, writes_room, writes}
use Rattle.volume.proofs.write_volume.Goals as goal

pub returns-then-numbers-ne0 : goal.returns-then-numbers-ne0
unfolding write_volume_call
returns-then-numbers-ne0 c = rw (writes_part c.args.list.now c.args.lent.now c.if-numbers-ne0.true)

pub returns-then-n : goal.returns-then-n
unfolding write_volume_call
returns-then-n c = rw (writes_many c.args.list.now c.args.lent.now c.if-numbers-ne0.false (omega arith))

pub returns-in_err-length : goal.returns-in_err-length
unfolding write_volume_call
returns-in_err-length c =
    let a = c.args in
    let p = err_from_is_err_and c.from_residual.result c.from_residual.ensures.1 in
    rw (
      p.1,
      p.2,
      writes_out_of_range a.list.now a.lent.now c.if-numbers-ne0.false (omega arith) _
          (sym c.in_err-length.ensures.measured),
    )

pub returns-then-lent-length : goal.returns-then-lent-length
unfolding write_volume_call
returns-then-lent-length c =
    let a = c.args in
    let count = c.count_groups.ensures.0 in
    rw (writes_short a.list.now a.lent.now c.if-numbers-ne0.false (omega arith) _ (sym c.in_ok-length.ensures.measured) (omega arith))

pub put_entries-requires : goal.put_entries-requires
put_entries-requires c =
    let a = c.args in
    let whole = c.if-numbers-ne0.false in
    let count = c.count_groups.ensures.0 in
    let written = c.write_number-first in
    let kept = written.auto.out in
    let room = writes_room a.list.now a.lent.now whole (omega arith) _ (sym c.in_ok-length.ensures.measured) (omega arith) in
    omega (arith, written.ensures.0)

pub returns : goal.returns
unfolding write_volume_call
returns c =
    let a = c.args in
    let count = c.count_groups.ensures.0 in
    let written = c.write_number-first.ensures in
    let put = c.put_entries.ensures in
    let first : c.write_number-first.result ≡ length (number (length a.list.now / 4)) = omega (arith, written.0) in
    let done = writes a.list.now a.lent.now c.if-numbers-ne0.false (omega arith) _
    (sym c.in_ok-length.ensures.measured) _ (omega arith) (put ∙ rw (first, written.1)) in
    rw (done, count)
