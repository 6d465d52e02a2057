-- `volume::writing::put_entry` meets its contract: the four numbers are written one after another.
use Rattle.std.proofs.Common.{arith}
use Rattle.volume.proofs.Measuring.{entry_length, entry_stored}
use Rattle.volume.proofs.writing.put_entry.Goals as goal

pub put_number-after_minutes-requires : goal.put_number-after_minutes-requires
put_number-after_minutes-requires c = let e = entry_length c.args.entry in grind arith

pub put_number-after_litres-requires : goal.put_number-after_litres-requires
put_number-after_litres-requires c = let e = entry_length c.args.entry in grind arith

pub put_number-after_ratio-requires : goal.put_number-after_ratio-requires
put_number-after_ratio-requires c = let e = entry_length c.args.entry in grind arith

pub put_number-requires : goal.put_number-requires
put_number-requires c = let e = entry_length c.args.entry in grind arith

pub returns : goal.returns
returns c =
    let a = c.args in
    let length_is = entry_length a.entry in
    let stored = entry_stored a.lent.now a.at a.entry in
    (grind arith, cc)
