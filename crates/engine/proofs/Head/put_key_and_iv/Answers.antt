-- The buffers are filled where every condition holds.
use Rattle.std.proofs.Common.{◌≡◌, Ok, sym, ◌∙◌, arith}
use Rattle.recovery.specs.Recovery.{found_at}
use Rattle.engine.proofs.Calls.{recover_done}
use Rattle.engine.proofs.Head.put_key_and_iv.Goals as goal

pub returns : goal.returns
returns c =
    let found : found_at c.in_ok-cipher.cipher c.args.area.now c.args.self.position ≡ Ok c.in-Ok.words = grind arith in
    recover_done _ _ _ _ _ (sym c.in_ok-cipher.ensures.answer) (c.if-key-key_bytes.false ∙ c.key_bytes.ensures.0)
    (c.if-iv-iv_bytes.false ∙ c.iv_bytes.ensures.0) _ _ _ found c.store_key_and_iv.ensures.0 c.store_key_and_iv.ensures.1
