-- The area is set up where no condition refuses.
use Rattle.std.proofs.Common.{sym}
use Rattle.engine.proofs.Calls.{set_up_done}
use Rattle.engine.proofs.Head.set_up_here.Goals as goal

pub returns : goal.returns
returns c = set_up_done _ _ _ _ _ _ _ _ (sym c.in_ok-cipher.ensures.answer) c.at.ensures c.set_up.ensures
