-- How an answer of the code is a result of the definitions: the refusal by its number, and what an accepted call gives.
use Rattle.std.specs.Prelude.{Ok, Err}
use Rattle.std.specs.Prelude as Std
use Rattle.laws.specs.Result.{Result, refused, accepted}
use Rattle.refusal.specs.declared.Refusal.{Refusal}
use Rattle.refusal.specs.Numbers.{number_of}

abbrev pub told : {A : Type 0} → Std.Result A Refusal → Result A
told (Ok a) = accepted a
told (Err r) = refused (number_of r)

-- the same, where f is what the definitions call a value of the code
abbrev pub told_as : {A B : Type 0} → (A → B) → Std.Result A Refusal → Result B
told_as f (Ok a) = accepted (f a)
told_as f (Err r) = refused (number_of r)
