-- The length of a checkpoint where the conditions of a head alone hold.
use Rattle.std.proofs.Common.{sym}
use Rattle.engine.proofs.Calls.{length_told}
use Rattle.engine.proofs.checkpoint_length.Goals as goal

pub returns : goal.returns
returns c = length_told _ _ _ (sym c.in_ok-cipher.ensures.answer) _ c.length_of.ensures
