-- It is the engine's call, whose accepted end is within the limit.
use Rattle.lab.proofs.Advance.{advances}
use Rattle.lab.proofs.cipher_next.Goals as goal

pub returns : goal.returns
returns c = (c.cipher.ensures, advances _ _ _ _ _ _ _ c.cipher.ensures)
