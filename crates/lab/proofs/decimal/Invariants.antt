-- The digits from a place on, read after n, give the number of the text.
use Rattle.lab.proofs.Digits.{Reads}
use Rattle.lab.proofs.decimal.Given as goal

abbrev pub invariant-loop-digit : goal.invariant-loop-digit
invariant-loop-digit l = Reads l.text l.n l.digit-index
