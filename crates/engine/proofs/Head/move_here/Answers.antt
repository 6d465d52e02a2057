-- Where no condition refuses, the tables are moved to the end. A signed argument reaches the callee as it is read back from its bits.
use Rattle.std.proofs.Common.{sym}
use mir.Syntax.{w64}
use mir.ValLaws.{to_z-of_z}
use Rattle.engine.proofs.Calls.{move_done}
use Rattle.engine.proofs.Head.move_here.Goals as goal

pub returns : goal.returns
returns c =
    let a = c.args in
    move_done a.self.now a.area.now a.distance _ (sym c.in_ok-cipher.ensures.answer) _ _ _ _
    (sym (rw (to_z-of_z w64 a.distance c.ranges.distance) at c.in_ok-to.ensures.answer)) c.at.ensures c.move_tables.ensures c.word_at-moved.ensures
