-- The area begins with the sixteen words after w, and its other words are made of them.
use Rattle.std.proofs.Common.{◌≡◌, length, rules, ◌∙◌}
use lib.Seq.{take_at}
use Rattle.schedule.proofs.Run.{run_more}
use Rattle.schedule.proofs.expand.Goals as goal

pub returns : goal.returns
returns c =
    let n : length c.args.w ≡ 16 = search rules in
    let m : length c.sixteen_more-first.result ≡ 16 = search rules in
    let first = rw c.copy_from_slice.ensures.after at c.go_on.ensures.0 in
    let last = rw c.unwrap.ensures at c.last_chunk.ensures.cases in
    (run_more c.args.w _ _ c.args.n n m (first ∙ take_at _ _ 16 m) c.sixteen_more-first.ensures c.go_on.ensures.1, last.1.same)
