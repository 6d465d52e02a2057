-- A move to a position, by whatever signed distance that is from where the engine stands.
use Rattle.std.specs.Prelude.{ℕ, ℤ, pos, ◌-ℤ◌}
use Rattle.laws.specs.Result.{Outcome}
use Rattle.engine.specs.Calls.{Engine, move_call}

-- the signed distance in bytes from one position to another
abbrev pub distance : (from to : ℕ) → ℤ
distance from to = pos to -ℤ pos from

unfoldable pub move_to : (position : ℕ) → Engine → Outcome Engine
move_to position e = move_call e.head e.area (distance e.head.position position)
