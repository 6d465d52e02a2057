-- The output of the last step taken: 0 where none is taken.
use mathlib.Core.Path.{◌≡◌, refl}
use mathlib.Core.List.{List}
use Prim.Native.Nat.{ℕ, suc, ◌+◌}
use native.Mathlib.Omega.{arith}
use Rattle.cipher.specs.declared.Cipher.{Cipher}
use Rattle.tables.specs.Step.{output}
use Rattle.steps.specs.Steps.{last_output}

module _ (c : Cipher) (s : List ℕ) where
  pub none_taken : (n : ℕ) → n ≡ 0 → last_output c s n ≡ 0
  unfolding last_output
  none_taken n e = rw e refl

  pub last_taken : (i n : ℕ) → n ≡ i + 1 → last_output c s n ≡ output c s i
  unfolding last_output
  last_taken i n e = let z : n ≡ suc i = omega arith in rw z refl
