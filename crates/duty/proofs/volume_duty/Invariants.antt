-- The loop of `duty::volume_duty` keeps `Summing`.
use Rattle.std.proofs.Common.{◌*◌, ◌≤◌, length, drop}
use Rattle.duty.proofs.Sums.{Summing}
use Rattle.duty.proofs.volume_duty.Given as goal

abbrev pub invariant-loop-k : goal.invariant-loop-k
invariant-loop-k l =
    (l.at ≤ length l.string) × Summing l.rates.cents l.k-end (drop l.initial.at l.string) l.k (drop l.at l.string) l.cents × (l.cents ≤ l.k * 6553500000) × (l.k-end ≤ 2000)
