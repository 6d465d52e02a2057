-- The loop's invariant: the words of k steps are done, and the five are those of step i + k.
use Rattle.std.proofs.Common.{◌-◌}
use Rattle.keystream.proofs.Calls.{Call}
use Rattle.keystream.proofs.xor_words.Given as goal

abbrev pub invariant-loop-k : goal.invariant-loop-k
invariant-loop-k l =
    Call l.cipher l.i l.initial.area l.initial.bytes l.start l.n l.initial.next.last l.area l.bytes l.next.five l.next.last l.k

abbrev pub decreases-loop-k : goal.decreases-loop-k
decreases-loop-k l = l.n - l.k
