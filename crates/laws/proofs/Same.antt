-- `same` answers true of equal lists and of no others. Assumes nothing.
use mathlib.Core.Path.{◌≡◌, refl, sym, ap, ap₂}
use mathlib.Core.Bool.{Bool, true, false, not, ◌&&◌, false≢true}
use mathlib.Core.List.{List, [], ◌∷◌}
use Prim.Native.Nat.{ℕ}
use borrow.Author.Tests.{eq-eqb, eqb-true}
use lib.Dec.{eqb}
use lib.ListN.{get_or}
use Rattle.laws.specs.Same.{same}

pub and_left : (a b : Bool) → a && b ≡ true → a ≡ true
and_left true b e = refl
and_left false b e = e

pub and_right : (a b : Bool) → a && b ≡ true → b ≡ true
and_right true b e = e
and_right false b e = absurd (false≢true e)

-- a test that the code negates
pub not-false : (t : Bool) → not t ≡ false → t ≡ true
not-false true e = refl
not-false false e = sym e

pub not-true : (t : Bool) → not t ≡ true → t ≡ false
not-true true e = sym e
not-true false e = refl

pub not_true_is_false : (t : Bool) → (t ≡ true → ⊥) → t ≡ false
not_true_is_false true h = absurd (h refl)
not_true_is_false false h = refl

-- two tests that are true in the same cases
pub true_alike : (a b : Bool) → (a ≡ true → b ≡ true) → (b ≡ true → a ≡ true) → a ≡ b
true_alike true b there back = sym (there refl)
true_alike false true there back = back refl
true_alike false false there back = refl

same_refl : (l : List ℕ) → same l l ≡ true
unfolding same
same_refl [] = refl
same_refl (a ∷ l) = rw (eq-eqb a a refl) (same_refl l)

pub equal_same : (l m : List ℕ) → l ≡ m → same l m ≡ true
equal_same l m e = rw e (same_refl m)

pub same_equal : (l m : List ℕ) → same l m ≡ true → l ≡ m
unfolding same
same_equal [] [] e = refl
same_equal [] (b ∷ m) e = absurd (false≢true e)
same_equal (a ∷ l) [] e = absurd (false≢true e)
same_equal (a ∷ l) (b ∷ m) e =
    ap₂ ◌∷◌ (eqb-true a b (and_left (eqb a b) (same l m) e)) (same_equal l m (and_right (eqb a b) (same l m) e))
