-- How what a call answers, the next head and the contents of area and lent slices make the outcome that the call's definition speaks of.
use Rattle.std.specs.Prelude.{List, ℕ, Result, replicate}
use Rattle.std.specs.Result.{result_unwrap_or}
use Rattle.laws.specs.Result.{Outcome}
use Rattle.refusal.specs.declared.Refusal.{Refusal}
use Rattle.refusal.specs.Numbers.{number_in}
use Rattle.engine.specs.declared.Head.{Head}
use Rattle.engine.specs.declared.answers.Keys.{Keys}
use Rattle.engine.specs.Calls.{Engine, engine_of, Ciphered, Written, Recovered, Loaded, Counted}

-- the refusal by its number, 0 where there is none, and what the call leaves
abbrev pub leaves : {A B : Type 0} → Result A Refusal → B → Outcome B
leaves answer left = record { refusal = number_in answer; value = left }

-- the sixteen words of a refused load
abbrev pub no_keys : Keys
no_keys = record { key = replicate 8 0; iv = replicate 8 0 }

-- set up and move
abbrev pub done : Result (Unit {0}) Refusal → (head : Head) (area : List ℕ) → Outcome Engine
done answer head area = leaves answer (engine_of head area)

-- cipher and encipher volume
abbrev pub ciphered : Result (Unit {0}) Refusal → (head : Head) (area bytes : List ℕ) → Outcome Ciphered
ciphered answer head area bytes = leaves answer (record { engine = engine_of head area; bytes = bytes })

-- write; its area is lent as `&`, which no call can change, so that `area` is what it held at entry
abbrev pub written : Result ℕ Refusal → (head : Head) (area lent : List ℕ) → Outcome Written
written answer head area lent = leaves answer (record { engine = engine_of head area; length = result_unwrap_or answer 0; lent = lent })

-- the length of a checkpoint
abbrev pub told : Result ℕ Refusal → Outcome ℕ
told answer = leaves answer (result_unwrap_or answer 0)

-- recover; its area too is lent as `&`
abbrev pub recovered : Result (Unit {0}) Refusal → (head : Head) (area key iv : List ℕ) → Outcome Recovered
recovered answer head area key iv = leaves answer (record { engine = engine_of head area; key = key; iv = iv })

-- load
abbrev pub loaded : Result Keys Refusal → (head : Head) (area : List ℕ) → Outcome Loaded
loaded answer head area =
    let keys = result_unwrap_or answer no_keys in
    leaves answer (record { engine = engine_of head area; key = keys.key; iv = keys.iv })

-- spent
abbrev pub counted : Result ℕ Refusal → (head : Head) → Outcome Counted
counted answer head = leaves answer (record { head = head; count = result_unwrap_or answer 0 })
