-- Where undoing set-up leads: how the code hands it on. Only contracts below the engine cite it.
use Rattle.std.specs.Prelude.{◌≡◌, Result, List, ℕ}
use Rattle.cipher.specs.declared.Cipher.{Cipher}
use Rattle.schedule.specs.Origin.{if_filled}
use Rattle.last_pass.specs.LastPass.{undo_last_pass}

-- an area s led back: the last pass undone leaves t, and r is its sixteen words, `Ok` where they fill all of it
pub record LedBack (c : Cipher) (s t : List ℕ) (r : Result (List ℕ) (List ℕ)) : Type 0 where
  pub area_is : t ≡ undo_last_pass c s
  pub found_is : r ≡ if_filled c (undo_last_pass c s)
