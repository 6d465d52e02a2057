-- The loop of `volume::reading::store_entries` keeps `Storing`.
use Rattle.std.proofs.Common.{◌≤◌, length, drop}
use Rattle.volume.proofs.Storing.{Storing}
use Rattle.volume.proofs.reading.store_entries.Given as goal

abbrev pub invariant-loop-k : goal.invariant-loop-k
invariant-loop-k l =
    (l.at ≤ length l.string) × Storing l.n (drop l.first l.string) l.initial.list l.k (drop l.at l.string) l.list
