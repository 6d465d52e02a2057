-- The loop of `volume::reading::check_entries` keeps `Comes`.
use Rattle.std.proofs.Common.{◌≤◌, length, drop}
use Rattle.volume.proofs.EntryByEntry.{Comes}
use Rattle.volume.proofs.reading.check_entries.Given as goal

abbrev pub invariant-loop-k : goal.invariant-loop-k
invariant-loop-k l = (l.at ≤ length l.string) × Comes (λ _. tt {0}) l.n (drop l.first l.string) l.k (drop l.at l.string) (λ _. tt)
