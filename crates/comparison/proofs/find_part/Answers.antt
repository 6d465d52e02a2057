-- `comparison::find_part` meets its contract: each recording is counted first, and the part is found then.
use Rattle.std.proofs.Common.{arith}
use Rattle.comparison.proofs.Answers.{nothing_first, nothing_second, part_found}
use Rattle.comparison.proofs.find_part.Goals as goal

pub returns-in_default : goal.returns-in_default
returns-in_default c = nothing_first c.args.blender.now c.args.gauge.now _ c.in_default.ensures.count

pub returns-in_default-count_entries : goal.returns-in_default-count_entries
returns-in_default-count_entries c =
    nothing_second c.args.blender.now c.args.gauge.now _ _ c.in-Ok.ensures.count c.in_default-count_entries.ensures.count

pub returns : goal.returns
returns c =
    let b = c.in-Ok in
    let g = c.in-Ok-count_entries in
    part_found c.args.blender.now c.args.gauge.now b.blenders g.gauges b.ensures.count g.ensures.count b.ensures.begins g.ensures.begins
    (λ i. let x = c.type_inv.blender i in omega arith) (λ i. let x = c.type_inv.gauge i in omega arith)
    _ c.first_difference.ensures
