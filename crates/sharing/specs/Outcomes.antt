-- How what a call on the share account answers, the next share account, the next head and the contents of area and lent bytes make the outcome that
-- the call's definition speaks of. Those of the engine's calls with a share account are in the engine's Outcomes.
use Rattle.std.specs.Prelude.{List, ℕ, Result}
use Rattle.laws.specs.Result.{Outcome}
use Rattle.refusal.specs.declared.Refusal.{Refusal}
use Rattle.engine.specs.declared.Head.{Head}
use Rattle.engine.specs.Calls.{engine_of}
use Rattle.engine.specs.Outcomes.{leaves}
use Rattle.sharing.specs.declared.ShareAccount.{ShareAccount}
use Rattle.sharing.specs.Calls.{Opened, Drawn}

-- opening; its area is lent as `&`, which no call can change, so that `area` is what it held at entry
abbrev pub opened : Result (Unit {0}) Refusal → ShareAccount → (head : Head) (area : List ℕ) → Outcome Opened
opened answer account head area = leaves answer (record { account = account; engine = engine_of head area })

-- draw
abbrev pub drawn : Result (Unit {0}) Refusal → ShareAccount → (head : Head) (area bytes : List ℕ) → Outcome Drawn
drawn answer account head area bytes = leaves answer (record { account = account; engine = engine_of head area; bytes = bytes })
