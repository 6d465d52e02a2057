-- `volume::writing::entry_bytes` meets its contract: the groups of the four numbers.
use Rattle.std.proofs.Common.{arith}
use Rattle.volume.proofs.Measuring.{entry_length}
use Rattle.volume.proofs.writing.entry_bytes.Goals as goal

pub returns : goal.returns
returns c = let e = entry_length c.args.entry in grind (arith, e)
