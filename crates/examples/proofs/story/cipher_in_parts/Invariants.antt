-- Each part leaves fewer bytes.
use Rattle.std.proofs.Common.{length}
use Rattle.examples.proofs.story.cipher_in_parts.Given as goal

abbrev pub decreases-loop-rest : goal.decreases-loop-rest
decreases-loop-rest l = length l.rest
