-- What is looked up in the part of the area is the other table.
use Rattle.carried.proofs.Arms.{step_256, output_256}
use Rattle.carried.proofs.word_256.Goals as goal

pub returns : goal.returns
returns c =
    let e = c.places-at.ensures.0 in
    let f = c.table_words-t.ensures.0 in
    let h = c.start_a.ensures.0 in
    (step_256 c.args.p c.args.area.now c.args.x e f h c.g_256-g.ensures, output_256 c.args.p _ c.args.x e f h c.h.ensures)
