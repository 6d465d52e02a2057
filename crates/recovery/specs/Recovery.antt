-- The tables at a position led back: the steps undone, then set-up's last pass, then the expansion. It says how the code's parts fit together;
-- what is claimed of recover and load is in the engine's definitions.
use Rattle.std.specs.Prelude.{Result, List, ℕ}
use Rattle.cipher.specs.declared.Cipher.{Cipher}
use Rattle.schedule.specs.Origin.{if_filled}
use Rattle.last_pass.specs.LastPass.{undo_last_pass}
use Rattle.steps.specs.Steps.{steps_back, steps_at}

-- the filled area that the tables s at a position lead back to
abbrev pub filled_at : Cipher → List ℕ → ℕ → List ℕ
filled_at c s position = undo_last_pass c (steps_back c s 0 (steps_at position))

-- the sixteen words of these tables: `Ok` where they are those of a key and an IV, else `Err`
abbrev pub found_at : Cipher → List ℕ → ℕ → Result (List ℕ) (List ℕ)
found_at c s position = if_filled c (filled_at c s position)
