-- It is 0 where a place is below 0 or the second before the first, and else the difference.
use Rattle.std.proofs.Common.{◌≡◌, refl, ap, ℕ, zero, suc, ◌-◌, ◌≤◌, ◌<◌, true, false, arith, ℤ, pos, negsuc, ◌-ℤ◌, w64}
use borrow.Author.Tests.{ltb-true, ltb-false, le-ltb}
use mir.Val.{SFits}
use mir.ValLaws.{to_z-of_z}
use lib.Signed.{lt_z}
use Rattle.lab.specs.Tasks.{span}
use Rattle.lab.proofs.span.Goals as goal

below_0 : (a b : ℤ) → lt_z a (pos 0) ≡ true → 0 ≡ span a b
unfolding span
below_0 (pos n) b t = let h : n < 0 = ltb-true n 0 t in absurd (omega arith)
below_0 (negsuc n) (pos m) t = refl
below_0 (negsuc n) (negsuc m) t = refl

before : (a b : ℤ) → lt_z a (pos 0) ≡ false → lt_z b a ≡ true → 0 ≡ span a b
unfolding span
before (pos n) (pos m) s t = let h : m < n = ltb-true m n t in omega arith
before (pos n) (negsuc m) s t = refl
before (negsuc n) b s t = absurd (cc)

difference : (m n : ℕ) → n ≤ m → pos m -ℤ pos n ≡ pos (m - n)
difference m zero l = ap pos (omega arith)
difference m (suc n) l = rw (le-ltb m (suc n) l)

after : (a b : ℤ) → SFits w64 b → lt_z a (pos 0) ≡ false → lt_z b a ≡ false → (b -ℤ a ≡ pos (span a b)) × SFits w64 (pos (span a b))
unfolding span
after (pos n) (pos m) f s t = (difference m n (ltb-false m n t), record { sfits = omega (arith, f.sfits) })
after (pos n) (negsuc m) f s t = absurd (cc)
after (negsuc n) b f s t = absurd (cc)

pub returns-then-here-lt0 : goal.returns-then-here-lt0
returns-then-here-lt0 c =
    below_0 c.args.here c.args.end (rw (to_z-of_z w64 c.args.here c.ranges.here) at c.if-here-lt0.true)

pub returns-then-end-here : goal.returns-then-end-here
returns-then-end-here c =
    let here = to_z-of_z w64 c.args.here c.ranges.here in
    let end = to_z-of_z w64 c.args.end c.ranges.end in
    before c.args.here c.args.end (rw here at c.if-here-lt0.false) (rw (end, here) at c.if-end-here.true)

pub returns : goal.returns
returns c =
    let here = to_z-of_z w64 c.args.here c.ranges.here in
    let end = to_z-of_z w64 c.args.end c.ranges.end in
    let found =
    after c.args.here c.args.end c.ranges.end (rw here at c.if-here-lt0.false) (rw (end, here) at c.if-end-here.false) in
    rw (end, here, found.0, to_z-of_z w64 _ found.1)
