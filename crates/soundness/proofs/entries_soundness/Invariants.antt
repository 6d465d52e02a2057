-- The loop of `soundness::entries_soundness` keeps `Left`.
use Rattle.std.proofs.Common.{◌≤◌, length, drop}
use Rattle.soundness.proofs.Places.{Left}
use Rattle.soundness.proofs.entries_soundness.Given as goal

abbrev pub invariant-loop-k : goal.invariant-loop-k
invariant-loop-k l = (l.at ≤ length l.string) × Left l.string l.n (drop l.first l.string) l.k (drop l.at l.string)
