-- Past the string's end no byte is left, and elsewhere `read_number` reads.
use Rattle.std.proofs.Common.{arith}
use lib.ListN.{drop_of_length-le}
use Rattle.varint.specs.Number.{read_groups}
use Rattle.reader.proofs.number_at.Goals as goal

pub returns-then-string-place : goal.returns-then-string-place
unfolding read_groups
returns-then-string-place c = rw (drop_of_length-le c.args.string.now {i = c.args.place} (omega arith))
