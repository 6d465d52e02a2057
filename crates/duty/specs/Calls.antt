-- Document 02 (e), the duty call as a definition of a table of rates and a string: the result, which is the refusal or the cents, and the outcome,
-- which gives 0 cents beside a refusal.
use Rattle.std.specs.Prelude.{List, ℕ}
use Rattle.std.specs.Prelude as Std
use Rattle.laws.specs.Result.{Result, accepted, Outcome, outcome, ◌>>=◌}
use Rattle.refusal.specs.declared.Refusal.{Refusal}
use Rattle.refusal.specs.Numbers.{number_in}
use Rattle.volume.specs.Answers.{given}
use Rattle.volume.specs.Calls.{entries_in}
use Rattle.duty.specs.declared.DutyAnswer.{DutyAnswer}
use Rattle.duty.specs.Duty.{entries_duty}

-- 'A volume that reading refuses gets the same number here, 8 excepted.'
unfoldable pub volume_duty : (rates string : List ℕ) → Result ℕ
volume_duty rates string = do
  entries ← entries_in string
  accepted (entries_duty rates entries)

unfoldable pub volume_duty_call : (rates string : List ℕ) → Outcome ℕ
volume_duty_call rates string = outcome 0 (volume_duty rates string)

-- for C: the answer, and how it makes the outcome

abbrev pub duty_answer : Std.Result ℕ Refusal → DutyAnswer
duty_answer answer = record { refusal = number_in answer; cents = given answer }

abbrev pub duty_given : DutyAnswer → Outcome ℕ
duty_given answer = record { refusal = answer.refusal; value = answer.cents }
