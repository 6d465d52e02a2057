-- `varint::read_number` meets its contract: it reads as `read_number` does. The loop keeps `Come`.
use Rattle.std.proofs.Common.{◌+◌}
use Rattle.varint.proofs.Place.{Come}
use Rattle.varint.proofs.read_number.Given as goal

abbrev pub invariant-loop-k : goal.invariant-loop-k
invariant-loop-k l = Come l.string l.at l.most l.value l.weight l.least (l.at + l.k) l.k
