-- The loop of `comparison::first_difference` keeps `Comes`.
use Rattle.std.proofs.Common.{◌≤◌, length}
use Rattle.comparison.proofs.Differences.{Comes}
use Rattle.comparison.proofs.first_difference.Given as goal

abbrev pub invariant-loop-k : goal.invariant-loop-k
invariant-loop-k l =
    (l.blender_at ≤ length l.blender) × (l.gauge_at ≤ length l.gauge)
    × Comes l.blender l.initial.blender_at l.blenders.value l.gauge l.initial.gauge_at l.gauges.value l.k l.blender_at l.gauge_at
