-- For C: the struct of an answer; and how an answer, the caller's head and the contents of area and lent slices make the outcome that a call's
-- definition speaks of.
use Rattle.std.specs.Prelude.{List, ℕ, Result}
use Rattle.std.specs.Result.{result_unwrap_or}
use Rattle.laws.specs.Result.{Outcome}
use Rattle.refusal.specs.declared.Refusal.{Refusal}
use Rattle.refusal.specs.Numbers.{number_in}
use Rattle.engine.specs.declared.Head.{Head}
use Rattle.engine.specs.declared.answers.Keys.{Keys}
use Rattle.engine.specs.declared.answers.LengthAnswer.{LengthAnswer}
use Rattle.engine.specs.declared.answers.LoadAnswer.{LoadAnswer}
use Rattle.engine.specs.declared.answers.SpentAnswer.{SpentAnswer}
use Rattle.engine.specs.Calls.{Engine, Ciphered, Written, Recovered, Loaded, Counted}
use Rattle.engine.specs.Outcomes.{no_keys}

-- the refusal by its number and what the call gives, 0 where it is refused
abbrev pub length_answer : Result ℕ Refusal → LengthAnswer
length_answer answer = record { refusal = number_in answer; length = result_unwrap_or answer 0 }

abbrev pub load_answer : Result Keys Refusal → LoadAnswer
load_answer answer = let keys = result_unwrap_or answer no_keys in record { refusal = number_in answer; key = keys.key; iv = keys.iv }

abbrev pub spent_answer : Result ℕ Refusal → SpentAnswer
spent_answer answer = record { refusal = number_in answer; count = result_unwrap_or answer 0 }

-- set up and move
abbrev pub done : (refusal : ℕ) (head : Head) (area : List ℕ) → Outcome Engine
done refusal head area = record { refusal = refusal; value = record { head = head; area = area } }

-- cipher and encipher volume
abbrev pub ciphered : (refusal : ℕ) (head : Head) (area bytes : List ℕ) → Outcome Ciphered
ciphered refusal head area bytes =
    record { refusal = refusal; value = record { engine = record { head = head; area = area }; bytes = bytes } }

-- write; its area is lent as `&`, which no call can change, so that `area` is what it held at entry
abbrev pub written : LengthAnswer → (head : Head) (area lent : List ℕ) → Outcome Written
written answer head area lent =
    record {
      refusal = answer.refusal;
      value = record { engine = record { head = head; area = area }; length = answer.length; lent = lent };
    }

-- the length of a checkpoint
abbrev pub told : LengthAnswer → Outcome ℕ
told answer = record { refusal = answer.refusal; value = answer.length }

-- recover; its area too is lent as `&`
abbrev pub recovered : (refusal : ℕ) (head : Head) (area key iv : List ℕ) → Outcome Recovered
recovered refusal head area key iv =
    record { refusal = refusal; value = record { engine = record { head = head; area = area }; key = key; iv = iv } }

-- load
abbrev pub loaded : LoadAnswer → (head : Head) (area : List ℕ) → Outcome Loaded
loaded answer head area =
    record {
      refusal = answer.refusal;
      value = record { engine = record { head = head; area = area }; key = answer.key; iv = answer.iv };
    }

-- spent
abbrev pub counted : SpentAnswer → (head : Head) → Outcome Counted
counted answer head = record { refusal = answer.refusal; value = record { head = head; count = answer.count } }
