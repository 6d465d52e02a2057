-- How an answer and the contents of the lent slice make the outcome that the definition of reading or writing speaks of; a refused call gives 0
-- beside the number of its refusal.
use Rattle.std.specs.Prelude.{List, ℕ, Result, Ok, Err}
use Rattle.laws.specs.Result.{Outcome}
use Rattle.refusal.specs.declared.Refusal.{Refusal}
use Rattle.refusal.specs.Numbers.{number_in}
use Rattle.volume.specs.declared.CountAnswer.{CountAnswer}
use Rattle.volume.specs.declared.LengthAnswer.{LengthAnswer}
use Rattle.volume.specs.Calls.{VolumeRead, VolumeWritten}

-- what an accepted call gives, and 0 for a refused one
abbrev pub given : Result ℕ Refusal → ℕ
given (Ok n) = n
given (Err refusal) = 0

abbrev pub read_gives : Result ℕ Refusal → (list : List ℕ) → Outcome VolumeRead
read_gives answer list = record { refusal = number_in answer; value = record { count = given answer; list = list } }

abbrev pub write_gives : Result ℕ Refusal → (lent : List ℕ) → Outcome VolumeWritten
write_gives answer lent = record { refusal = number_in answer; value = record { length = given answer; lent = lent } }

-- for C

abbrev pub count_answer : Result ℕ Refusal → CountAnswer
count_answer answer = record { refusal = number_in answer; count = given answer }

abbrev pub length_answer : Result ℕ Refusal → LengthAnswer
length_answer answer = record { refusal = number_in answer; length = given answer }

abbrev pub volume_read : CountAnswer → (list : List ℕ) → Outcome VolumeRead
volume_read answer list = record { refusal = answer.refusal; value = record { count = answer.count; list = list } }

abbrev pub volume_written : LengthAnswer → (lent : List ℕ) → Outcome VolumeWritten
volume_written answer lent = record { refusal = answer.refusal; value = record { length = answer.length; lent = lent } }
