-- Four steps more fit where the outer loop goes on, and none of the five wraps in them; each step of the inner loop does one word more.
use Rattle.std.proofs.Common.{◌≡◌, ℕ, ◌+◌, ◌*◌, ◌/◌, ◌<◌, ◌≤◌, arith, refl, ◌∙◌}
use Rattle.carried.proofs.Five.{run_within, run_within_1024, run_next}
use Rattle.keystream.proofs.Words.{same_xor, words_turn}
use Rattle.keystream.proofs.Runs.{run_start, run_turn, run_wraps_none, run_stepped, run_put}
use Rattle.keystream.proofs.xor_run.Goals as goal

four_fit : (n m : ℕ) → m < n / 4 → 4 * m + 4 ≤ n
four_fit n m l = omega arith

pub loop-m-init : goal.loop-m-init
loop-m-init c = run_start _ _ _ _ _ _ _ _

pub loop-q-init : goal.loop-q-init
loop-q-init c = run_start _ _ _ _ _ _ _ _

pub word_in_run-requires : goal.word_in_run-requires
word_in_run-requires c =
    let fit = four_fit _ _ c.loop-m-test.true in
    let none = run_wraps_none _ _ _ _ _ _ _ _ 4 c.loop-m.invariant c.requires.1 fit in (
      c.loop-q.invariant.0.0.sized ∙ c.loop-m.invariant.0.0.sized ∙ c.requires.0,
      run_within c.args.cipher 4 _ none c.loop-q.invariant.1 c.loop-q-test.true,
    )

pub carry_unwrapped-next-requires : goal.carry_unwrapped-next-requires
carry_unwrapped-next-requires c =
    let fit = four_fit _ _ c.loop-m-test.true in
    let none = run_wraps_none _ _ _ _ _ _ _ _ 4 c.loop-m.invariant c.requires.1 fit in
    run_within_1024 c.args.cipher 4 _ none c.loop-q.invariant.1 c.loop-q-test.true

pub loop-q-preserved : goal.loop-q-preserved
loop-q-preserved c =
    let fit = four_fit _ _ c.loop-m-test.true in
    let none = run_wraps_none _ _ _ _ _ _ _ _ 4 c.loop-m.invariant c.requires.1 fit in
    let inner = c.loop-q.invariant in
    let taken = c.word_in_run in
    let put = c.xor_word in (
      words_turn _ _ _ _ _ _ _ _ inner.0 c.loop-q-test.true
          (run_stepped c.args.cipher _ _ _ _ inner.1 taken.ensures.0) taken.auto.area (run_put c.args.cipher _ _ _ _ inner.1 taken.ensures.1)
          (put.ensures ∙ same_xor _ (omega arith) refl) put.auto.bytes,
      run_next c.args.cipher 4 _ none inner.1 c.loop-q-test.true c.carry_unwrapped-next.ensures,
    )

pub loop-m-preserved : goal.loop-m-preserved
loop-m-preserved c =
    let fit = four_fit _ _ c.loop-m-test.true in
    let e : 4 * (c.loop-m.m + 1) ≡ 4 * c.loop-m.m + 4 = omega arith in
    rw e (run_turn _ _ _ _ _ _ _ _ 4 c.loop-m.invariant (omega arith) fit c.loop-q.invariant c.loop-q-test.false)
