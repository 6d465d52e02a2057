-- The first j words of the area are those of the string.
use Rattle.std.proofs.Common.{◌≡◌, ℕ, ◌<◌, get_or, drop}
use Rattle.word.specs.Bytes.{words}
use Rattle.checkpoint.proofs.read_words.Given as goal

abbrev pub invariant-loop-j : goal.invariant-loop-j
invariant-loop-j l = (k : ℕ) → k < l.j → get_or l.area k 0 ≡ get_or (words (drop l.from l.string)) k 0
