-- `volume::reading::store_entries` meets its contract: entry by entry, four numbers each.
use Rattle.std.proofs.Common.{arith}
use Rattle.volume.proofs.Storing.{storing_turns, storing_ends}
use Rattle.volume.proofs.reading.store_entries.Goals as goal

pub loop-k-preserved : goal.loop-k-preserved
loop-k-preserved c =
    let l = c.loop-k in
    let read = c.read_entry-found in (
      read.ensures.1,
      storing_turns _ _ _ l.k _ _ l.list _ read.result.value
          c.loop-k-test.true read.ensures.0 c.store_entry.ensures l.invariant.1,
    )

pub returns : goal.returns
returns c =
    let l = c.loop-k in
    storing_ends _ _ _ l.k _ l.list (omega arith) c.requires.1 l.invariant.1
