-- Numbered changes of a state, one after the other, and their undoing.
use Rattle.std.specs.Prelude.{ℕ, zero, suc, ◌+◌}

module _ {A : Type 0} where
  -- the changes i, i + 1, .., i + n - 1 of s
  unfoldable pub forward : (A → ℕ → A) → A → ℕ → ℕ → A
  forward f s i zero = s
  forward f s i (suc n) = f (forward f s i n) (i + n)

  -- the changes i + n - 1, .., i + 1, i of s: last first
  unfoldable pub backward : (A → ℕ → A) → A → ℕ → ℕ → A
  backward g s i zero = s
  backward g s i (suc n) = backward g (g s (i + n)) i n
