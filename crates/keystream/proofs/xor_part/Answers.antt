-- Each turn does one byte more, and the loop ends after n.
use Rattle.std.proofs.Common.{arith, length-set}
use Rattle.laws.proofs.Loops.{forward_starts, forward_turns}
use Rattle.keystream.proofs.xor_part.Goals as goal

pub loop-k-init : goal.loop-k-init
loop-k-init c = forward_starts _ _ 0 _

pub loop-k-preserved : goal.loop-k-preserved
loop-k-preserved c =
    let l = c.loop-k in
    forward_turns _ _ 0 _ l.k l.invariant c.loop-k-test.true (omega arith) (cc c.byte.ensures.0) (simp length-set)
