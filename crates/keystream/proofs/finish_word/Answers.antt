-- Where a word begins at p nothing is done.
use Rattle.std.proofs.Common.{sym}
use Rattle.laws.proofs.Iterate.{forward_none}
use Rattle.keystream.proofs.Whole.{none_in_word}
use Rattle.keystream.proofs.finish_word.Goals as goal

pub returns-then-p-eq0 : goal.returns-then-p-eq0
returns-then-p-eq0 c =
    let e = none_in_word _ _ c.if-p-eq0.true in
    (sym e, rw e (sym (forward_none _ _ 0)))
