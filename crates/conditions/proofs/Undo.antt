-- The tables at a position lead back to a key and an IV exactly where the filled area is one that an expansion fills. Assumes nothing.
use mathlib.Core.Path.{◌≡◌}
use mathlib.Core.Bool.{true, false}
use mathlib.Core.List.{List}
use Prim.Native.Nat.{ℕ}
use Rattle.cipher.specs.declared.Cipher.{Cipher}
use Rattle.keys.specs.Key.{key_of, iv_of}
use Rattle.schedule.specs.Origin.{origin, is_filled}
use Rattle.last_pass.specs.LastPass.{undo_last_pass}
use Rattle.steps.specs.Steps.{steps_back, steps_at}
use Rattle.setup.specs.SetUp.{none, found}
use Rattle.setup.proofs.Inverse.{undo_not_filled, undo_filled}
use Rattle.conditions.specs.Conditions.{undo_at}

module _ (c : Cipher) (s : List ℕ) (position : ℕ) where
  -- the filled area that they lead back to
  abbrev led : List ℕ
  led = undo_last_pass c (steps_back c s 0 (steps_at position))

  pub none_at : is_filled c led ≡ false → undo_at c s position ≡ none
  unfolding undo_at
  none_at f = undo_not_filled c _ f

  pub found_at : is_filled c led ≡ true → undo_at c s position ≡ found (key_of c (origin c led)) (iv_of c (origin c led))
  unfolding undo_at
  found_at f = undo_filled c _ f
