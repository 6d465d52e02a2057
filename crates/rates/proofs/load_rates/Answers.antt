-- `rates::load_rates` meets its contract: pair by pair, and the place after the last is the string's end.
use Rattle.std.proofs.Common.{◌∙◌, sym, length-set, arith}
use Rattle.std.proofs.lemmas.Result.{err_from_is_err_and}
use Rattle.rates.proofs.Pairs.{pair_in_order}
use Rattle.rates.proofs.PairByPair.{filling_turns, left_refused, left_accepted, no_count, no_pair, bytes_left_over, nothing_left_over}
use Rattle.rates.proofs.load_rates.Goals as goal

pub returns-in_err-count : goal.returns-in_err-count
returns-in_err-count c =
    let a = c.args in
    let p = err_from_is_err_and c.from_residual.result c.from_residual.ensures.1 in
    rw (p.1, p.2) (left_refused a.string.now _ a.rates.now.cents (no_count a.string.now c.in_err-count.ensures.value))

pub returns-in_err-found : goal.returns-in_err-found
returns-in_err-found c =
    let a = c.args in
    let l = c.loop-k in
    let p = err_from_is_err_and c.from_residual-in_err-found.result c.from_residual-in_err-found.ensures.1 in
    rw (p.1, p.2)
    (left_refused a.string.now _ a.rates.now.cents
    (no_pair a.string.now c.in_ok-count.count.value c.in_ok-count.count.next c.in_ok-count.ensures.value
    l.k l.last l.at l.cents l.invariant.2 c.loop-k-test.true (sym c.in_err-found.ensures.pair)))

-- the pair that was read: its product is a place of the table, and its rate fits 16 bits
pub overflow_cast-cents : goal.overflow_cast-cents
overflow_cast-cents c = let p = pair_in_order _ _ _ (sym c.in_ok-found.ensures.pair) in omega (arith, p.rate)

pub overflow_sub-cents : goal.overflow_sub-cents
overflow_sub-cents c = let p = pair_in_order _ _ _ (sym c.in_ok-found.ensures.pair) in p.product.0

pub bounds-cents-last : goal.bounds-cents-last
bounds-cents-last c = let p = pair_in_order _ _ _ (sym c.in_ok-found.ensures.pair) in omega (arith, p.product.1)

pub loop-k-preserved : goal.loop-k-preserved
loop-k-preserved c =
    let l = c.loop-k in
    let found = c.in_ok-found.ensures in (
      found.within,
      length-set l.cents _ _ ∙ l.invariant.1,
      filling_turns _ _ l.k l.last _ l.cents l.invariant.2 c.loop-k-test.true (sym found.pair),
    )

pub returns-then-at-string : goal.returns-then-at-string
returns-then-at-string c =
    let a = c.args in
    let l = c.loop-k in
    left_refused a.string.now 24 a.rates.now.cents
    (bytes_left_over a.string.now c.in_ok-count.count.value c.in_ok-count.count.next c.in_ok-count.ensures.value
    l.k l.last l.at l.cents l.invariant.2 (omega arith) (omega arith))

pub returns : goal.returns
returns c =
    let a = c.args in
    let l = c.loop-k in
    left_accepted a.string.now a.rates.now.cents l.cents
    (nothing_left_over a.string.now c.in_ok-count.count.value c.in_ok-count.count.next c.in_ok-count.ensures.value
    l.k l.last l.at l.cents l.invariant.2 (omega arith) (omega arith))
