-- `duty::volume_duty` meets its contract: entry by entry, and the place after the last is the string's end.
use Rattle.std.proofs.Common.{rules, sym, arith}
use Rattle.std.proofs.lemmas.Result.{err_from_is_err_and}
use Rattle.volume.specs.Volume.{count_range}
use Rattle.volume.proofs.Values.{value_in_range, range_most}
use Rattle.volume.proofs.Ranges.{entry_ranges}
use Rattle.duty.proofs.Sums.{sum_starts, sum_turns, sum_refused, no_count, from_entries, bytes_after, nothing_after}
use Rattle.duty.proofs.volume_duty.Goals as goal

pub returns-in_err-count : goal.returns-in_err-count
returns-in_err-count c =
    let p = err_from_is_err_and c.from_residual.result c.from_residual.ensures.1 in
    rw (p.1, p.2) (sym (no_count c.args.rates.cents c.args.string.now c.in_err-count.ensures.value))

pub loop-k-init : goal.loop-k-init
loop-k-init c =
    let count = c.in_ok-count in
    let n = value_in_range count_range _ _ (sym count.ensures.value) in
    (count.ensures.within, sum_starts _ _ _, omega arith, range_most count_range count.count.value n)

pub returns-in_err-found : goal.returns-in_err-found
returns-in_err-found c =
    let a = c.args in
    let l = c.loop-k in
    let p = err_from_is_err_and c.from_residual-in_err-found.result c.from_residual-in_err-found.ensures.1 in
    rw (p.1, p.2)
    (sym (from_entries a.rates.cents a.string.now c.in_ok-count.count.value c.in_ok-count.count.next c.in_ok-count.ensures.value
    (sum_refused _ _ _ l.k _ l.cents l.invariant.1 c.loop-k-test.true (sym c.in_err-found.ensures.entry))))

pub exact_duty-requires : goal.exact_duty-requires
exact_duty-requires c =
    let e = entry_ranges _ _ (sym c.in_ok-found.ensures.entry) in
    (search rules, e.0, e.1, e.2, e.3)

pub loop-k-preserved : goal.loop-k-preserved
loop-k-preserved c =
    let l = c.loop-k in
    let found = c.in_ok-found.ensures in (
      found.within,
      sum_turns _ _ _ l.k _ l.cents l.invariant.1 c.loop-k-test.true (sym found.entry) c.exact_duty.ensures.0,
      omega (arith, l.invariant.2, c.exact_duty.ensures.1),
      l.invariant.3,
    )

pub returns-then-at-string : goal.returns-then-at-string
returns-then-at-string c =
    let a = c.args in
    let l = c.loop-k in
    sym (bytes_after a.rates.cents a.string.now c.in_ok-count.count.value c.in_ok-count.count.next c.in_ok-count.ensures.value
    l.k l.at l.cents l.invariant.1 (omega arith) (omega arith))

pub returns : goal.returns
returns c =
    let a = c.args in
    let l = c.loop-k in
    sym (nothing_after a.rates.cents a.string.now c.in_ok-count.count.value c.in_ok-count.count.next c.in_ok-count.ensures.value
    l.k l.at l.cents l.invariant.1 (omega arith) (omega arith))
