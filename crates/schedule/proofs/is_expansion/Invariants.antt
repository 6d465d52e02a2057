-- The loop's invariant: the words of the area from place 16 to place k - 1 follow the rule of Wi.
use Rattle.std.proofs.Common.{ℕ, ◌≡◌, ◌+◌, ◌<◌, ◌≤◌, get_or}
use Rattle.schedule.specs.Expansion.{next_word}
use Rattle.schedule.specs.Origin.{unexpansion}
use Rattle.schedule.proofs.is_expansion.Given as goal

abbrev pub invariant-loop-k : goal.invariant-loop-k
invariant-loop-k l = (i : ℕ) → i < l.k → 16 ≤ i → get_or l.area i 0 ≡ next_word (unexpansion l.area l.half) (l.half + i)
