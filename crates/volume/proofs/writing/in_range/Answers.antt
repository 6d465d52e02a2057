-- `volume::writing::in_range` meets its contract: each number is tested in its turn.
use Rattle.std.proofs.Common.{arith}
use borrow.Author.Tests.{le-leb}
use Rattle.volume.specs.Volume.{entry_in_range}
use Rattle.volume.proofs.Values.{range_holds, range_below, range_above}
use Rattle.volume.proofs.writing.in_range.Goals as goal

pub returns-then-entry-gt-MOST_MINUTES : goal.returns-then-entry-gt-MOST_MINUTES
unfolding entry_in_range
returns-then-entry-gt-MOST_MINUTES c =
    let e = c.args.entry in
    rw (range_above 0 1440 e.minutes (omega arith) (omega arith))

pub returns-then-entry-gt-MOST_LITRES : goal.returns-then-entry-gt-MOST_LITRES
unfolding entry_in_range
returns-then-entry-gt-MOST_LITRES c =
    let e = c.args.entry in
    rw (range_holds 0 1440 e.minutes (omega arith) (omega arith), range_above 0 100000 e.litres (omega arith) (omega arith))

pub returns-then-entry-gt-MOST_RATIO : goal.returns-then-entry-gt-MOST_RATIO
unfolding entry_in_range
returns-then-entry-gt-MOST_RATIO c =
    let e = c.args.entry in
    rw (range_holds 0 1440 e.minutes (omega arith) (omega arith), range_holds 0 100000 e.litres (omega arith) (omega arith), range_above 0 10000 e.ratio (omega arith) (omega arith))

pub returns-then-entry-lt-LEAST_PRODUCT : goal.returns-then-entry-lt-LEAST_PRODUCT
unfolding entry_in_range
returns-then-entry-lt-LEAST_PRODUCT c =
    let e = c.args.entry in
    rw (range_holds 0 1440 e.minutes (omega arith) (omega arith), range_holds 0 100000 e.litres (omega arith) (omega arith), range_holds 0 10000 e.ratio (omega arith) (omega arith), range_below 1 8 e.product (omega arith))

pub returns : goal.returns
unfolding entry_in_range
returns c =
    let e = c.args.entry in
    rw (range_holds 0 1440 e.minutes (omega arith) (omega arith), range_holds 0 100000 e.litres (omega arith) (omega arith), range_holds 0 10000 e.ratio (omega arith) (omega arith), le-leb 1 e.product (omega arith))
