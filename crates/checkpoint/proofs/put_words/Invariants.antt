-- The bytes of the first k words are written.
use Rattle.std.proofs.Common.{◌≡◌, take}
use Rattle.std.proofs.lemmas.List.Edits.{sets}
use Rattle.word.specs.Bytes.{bytes}
use Rattle.checkpoint.proofs.put_words.Given as goal

abbrev pub invariant-loop-k : goal.invariant-loop-k
invariant-loop-k l = l.out ≡ sets l.fn.out l.at (bytes (take l.k l.area))
