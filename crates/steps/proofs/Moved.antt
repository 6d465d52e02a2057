-- The two ways of a move from position p to position q, where i and j are their steps.
use mathlib.Core.Path.{◌≡◌}
use mathlib.Core.List.{List}
use Prim.Native.Nat.{ℕ, ◌+◌, ◌-◌, ◌≤◌, ◌<◌}
use native.Mathlib.Omega.{arith}
use borrow.Author.Tests.{le-leb, lt-leb}
use Rattle.cipher.specs.declared.Cipher.{Cipher}
use Rattle.steps.specs.Steps.{steps, steps_back, steps_at, moved}

pub steps_up : (p n : ℕ) → steps_at p ≤ steps_at (p + n)
steps_up p n = omega arith

module _ (c : Cipher) (s t : List ℕ) (p q i j : ℕ) (ei : i ≡ steps_at p) (ej : j ≡ steps_at q) where
  pub moved_up : i ≤ j → t ≡ steps c s i (j - i) → t ≡ moved c s p q
  unfolding moved
  moved_up l e = rw (← ei, ← ej, le-leb i j l) e

  pub moved_down : j < i → t ≡ steps_back c s j (i - j) → t ≡ moved c s p q
  unfolding moved
  moved_down l e = rw (← ei, ← ej, lt-leb i j l) e
