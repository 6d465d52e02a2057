-- One step is taken where bytes are left, and none where not.
use Rattle.keystream.proofs.Runs.{begun_none, begun_some}
use Rattle.keystream.proofs.begin_word.Goals as goal

pub returns-then-n-eq0 : goal.returns-then-n-eq0
returns-then-n-eq0 c = begun_none _ _ _ _ _ _ c.if-n-eq0.true

pub returns : goal.returns
returns c =
    let a = c.args in
    begun_some a.cipher a.next.five _ a.area.now a.bytes.now a.n a.next.last c.changes_p.ensures c.if-n-eq0.false c.requires.2 c.word-first.ensures c.xor_part.ensures
