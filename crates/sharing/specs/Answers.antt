-- For C: the struct of an answer; and how an answer, the caller's head and the contents of area and lent bytes make the outcome that the definition of
-- a call on the share account speaks of.
use Rattle.std.specs.Prelude.{List, ℕ, Result}
use Rattle.laws.specs.Result.{Outcome}
use Rattle.refusal.specs.declared.Refusal.{Refusal}
use Rattle.refusal.specs.Numbers.{number_in}
use Rattle.engine.specs.declared.Head.{Head}
use Rattle.sharing.specs.declared.ShareAccount.{ShareAccount}
use Rattle.sharing.specs.declared.ShareAnswer.{ShareAnswer}
use Rattle.sharing.specs.Calls.{Opened, Drawn}

-- the refusal by its number, and the next share account
abbrev pub share_answer : Result (Unit {0}) Refusal → ShareAccount → ShareAnswer
share_answer answer account = record { refusal = number_in answer; account = account }

-- opening; its area is lent as `&`, which no call can change, so that `area` is what it held at entry
abbrev pub opened : ShareAnswer → (head : Head) (area : List ℕ) → Outcome Opened
opened answer head area =
    record { refusal = answer.refusal; value = record { account = answer.account; engine = record { head = head; area = area } } }

-- draw
abbrev pub drawn : ShareAnswer → (head : Head) (area bytes : List ℕ) → Outcome Drawn
drawn answer head area bytes =
    record {
      refusal = answer.refusal;
      value = record { account = answer.account; engine = record { head = head; area = area }; bytes = bytes };
    }

-- closing
abbrev pub closed : ShareAnswer → Outcome ShareAccount
closed answer = record { refusal = answer.refusal; value = answer.account }
