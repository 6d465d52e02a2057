-- What `==` tells of two slices is whether they are the same.
use mathlib.Core.Path.{◌≡◌, refl}
use mathlib.Core.List.{List, [], ◌∷◌}
use Prim.Native.Nat.{ℕ}
use lib.Dec.{eqb}
use lib.Pointwise.{pointwise}
use Rattle.laws.specs.Same.{same}

pub same_is : (l m : List ℕ) → same l m ≡ pointwise eqb l m
unfolding same
same_is [] [] = refl
same_is [] (b ∷ m) = refl
same_is (a ∷ l) [] = refl
same_is (a ∷ l) (b ∷ m) = rw (same_is l m) refl
