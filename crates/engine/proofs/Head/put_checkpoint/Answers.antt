-- The checkpoint is put where every condition holds.
use Rattle.std.proofs.Common.{sym}
use Rattle.engine.proofs.Calls.{write_done}
use Rattle.engine.proofs.Head.put_checkpoint.Goals as goal

pub returns : goal.returns
returns c =
    write_done _ _ _ _ (sym c.in_ok-cipher.ensures.answer) _ _ c.length_of-length.ensures c.if-lent-length.false c.write_checkpoint.ensures
