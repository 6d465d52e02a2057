-- `comparison::compare_recordings` meets its contract: the part that was found, of the slice that it came in.
use Rattle.std.proofs.Common.{◌+◌, ◌≤◌, length, arith}
use Rattle.comparison.proofs.Answers.{call_within}
use Rattle.comparison.proofs.compare_recordings.Goals as goal

in_blender : (c : goal.In-Blender) → c.in-Blender.from + c.in-Blender.length ≤ length c.args.blender.now
in_blender c =
    rw (← c.in-Blender.ensures) at (call_within c.args.blender.now c.args.gauge.now
    (λ i. let x = c.type_inv.blender i in omega arith) (λ i. let x = c.type_inv.gauge i in omega arith))

pub overflow_add-result : goal.overflow_add-result
overflow_add-result c = omega (arith, in_blender c)

pub slice_bounds-result-end : goal.slice_bounds-result-end
slice_bounds-result-end c = in_blender c

in_gauge : (c : goal.In-Gauge) → c.in-Gauge.from + c.in-Gauge.length ≤ length c.args.gauge.now
in_gauge c =
    rw (← c.in-Gauge.ensures) at (call_within c.args.blender.now c.args.gauge.now
    (λ i. let x = c.type_inv.blender i in omega arith) (λ i. let x = c.type_inv.gauge i in omega arith))

pub overflow_add-result-in-Gauge : goal.overflow_add-result-in-Gauge
overflow_add-result-in-Gauge c = omega (arith, in_gauge c)

pub slice_bounds-result-end-in-Gauge : goal.slice_bounds-result-end-in-Gauge
slice_bounds-result-end-in-Gauge c = in_gauge c
