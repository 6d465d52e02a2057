-- `tables::output_again` meets its contract: its places are those of step i, and what it looks up is the other table.
use Rattle.std.proofs.Common.{◌-◌, ◌/◌, length}
use Rattle.functions.proofs.Tables.{part_table}
use Rattle.tables.proofs.Masks.{start_of, again, output_read}
use Rattle.tables.proofs.output_again.Goals as goal

pub returns : goal.returns
returns c =
    let a = c.args in
    let s = a.area.now in
    let v = again a.cipher (length s) a.i c.requires in
    output_read a.cipher s a.i v.place_is v.minus12_is v.other_is
    (part_table s (length s / 2 - start_of a.cipher (length s) a.i)) c.h.ensures
