-- The loop of `rates::load_rates` keeps `Filling`.
use Rattle.std.proofs.Common.{◌≡◌, ◌≤◌, length, drop}
use Rattle.rates.proofs.PairByPair.{Filling}
use Rattle.rates.proofs.load_rates.Given as goal

abbrev pub invariant-loop-k : goal.invariant-loop-k
invariant-loop-k l =
    (l.at ≤ length l.string) × (length l.cents ≡ 8) × Filling l.k-end (drop l.initial.at l.string) l.k l.last (drop l.at l.string) l.cents
