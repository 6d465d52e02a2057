-- The documents' number of each refusal, and the number of an answer, which is 0 where the call is accepted.
use Rattle.std.specs.Prelude.{ℕ, Result, Ok, Err}
use Rattle.refusal.specs.declared.Refusal.{Refusal}
use Rattle.refusal.specs.declared.Refusal.TheVariants as refusal

abbrev pub number_of : Refusal → ℕ
number_of refusal.BadCode = 1
number_of refusal.KeyLength = 2
number_of refusal.IvLength = 3
number_of refusal.AreaLength = 4
number_of refusal.BadPosition = 5
number_of refusal.PastLimit = 6
number_of refusal.BeforeStart = 7
number_of refusal.LittleRoom = 8
number_of refusal.EndsEarly = 9
number_of refusal.BadNumber = 10
number_of refusal.StringLength = 11
number_of refusal.NoKey = 12
number_of refusal.FalseWord = 13
number_of refusal.VolumeNumber = 14
number_of refusal.VolumeRange = 15
number_of refusal.VolumeEnds = 16
number_of refusal.SeedZero = 17
number_of refusal.ManyCalls = 18
number_of refusal.NoLine = 19
number_of refusal.PastShares = 20
number_of refusal.WrongSharing = 21
number_of refusal.TwoCiphers = 23
number_of refusal.BadRates = 24
number_of refusal.RatesOrder = 25

abbrev pub number_in : {A : Type 0} → Result A Refusal → ℕ
number_in (Ok a) = 0
number_in (Err r) = number_of r
