-- The loop's invariant: the first k words of both halves are read.
use Rattle.std.proofs.Common.{ℕ, ◌≡◌, ◌+◌, ◌%◌, ◌<◌, length, get_or}
use Rattle.word.specs.Bytes.{words}
use Rattle.keys.proofs.sixteen_words.Given as goal

abbrev pub invariant-loop-k : goal.invariant-loop-k
invariant-loop-k l =
    (length l.w ≡ 16)
    × ((m : ℕ) → m < l.k → get_or l.w m 0 ≡ get_or (words l.key) (m % l.n) 0)
    × ((m : ℕ) → m < l.k → get_or l.w (8 + m) 0 ≡ get_or (words l.iv) (m % l.n) 0)
