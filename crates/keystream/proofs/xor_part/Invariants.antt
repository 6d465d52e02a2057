-- The loop's invariant: the first k of the bytes are done.
use Rattle.laws.proofs.Loops.{Forward}
use Rattle.keystream.specs.Stores.{xor_byte}
use Rattle.keystream.proofs.xor_part.Given as goal

abbrev pub invariant-loop-k : goal.invariant-loop-k
invariant-loop-k l = Forward (xor_byte l.start l.w l.from) l.initial.bytes l.bytes 0 l.k l.n
