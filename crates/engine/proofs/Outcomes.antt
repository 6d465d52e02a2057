-- No refusal has the number 0, which says that a call is accepted. Assumes nothing.
use mathlib.Core.Path.{◌≡◌}
use native.Mathlib.Omega.{arith}
use Rattle.refusal.specs.declared.Refusal.{Refusal}
use Rattle.refusal.specs.Numbers.{number_of}

pub never_0 : (r : Refusal) → number_of r ≡ 0 → ⊥
never_0 r e = grind arith
