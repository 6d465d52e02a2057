-- The loop's invariant: the first j bytes are stored.
use Rattle.std.proofs.Common.{ℕ, ◌≡◌, ◌/◌, ◌%◌, ◌<◌, get_or}
use Rattle.word.specs.Bytes.{byte}
use Rattle.keys.proofs.store_bytes.Given as goal

abbrev pub invariant-loop-j : goal.invariant-loop-j
invariant-loop-j l = (k : ℕ) → k < l.j → get_or l.out k 0 ≡ byte (k % 4) (get_or l.words (k / 4) 0)
