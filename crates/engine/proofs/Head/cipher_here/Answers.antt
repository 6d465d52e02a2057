-- Where no condition refuses, the bytes are enciphered, and the mark follows.
use Rattle.std.proofs.Common.{sym, arith}
use Rattle.engine.proofs.Calls.{cipher_done}
use Rattle.engine.proofs.Head.cipher_here.Goals as goal

pub returns : goal.returns
returns c =
    cipher_done _ _ _ _ (sym c.in_ok-cipher.ensures.answer) _ _ _ _ _ (omega (arith, c.in_ok-cipher.ensures.within)) c.at.ensures
    c.xor_keystream-last.ensures c.mark_after.ensures
