-- Of the thirty-two words, the first sixteen are w and the others are made of them.
use Rattle.std.proofs.Common.{◌≡◌, length, rules, ◌∙◌}
use lib.Seq.{take_at}
use Rattle.schedule.proofs.Run.{run_two}
use Rattle.schedule.proofs.sixteen_more.Goals as goal

pub returns : goal.returns
returns c =
    let n : length c.args.w ≡ 16 = search rules in
    let long : length c.go_on.new.words ≡ 32 = search rules in
    let first = rw c.copy_from_slice.ensures.after at c.go_on.ensures.0 in
    let last = rw (c.unwrap.ensures, long) at c.last_chunk.ensures.cases in
    run_two c.go_on.new.words _ _ _ (first ∙ take_at _ _ 16 n) last.1.same c.go_on.ensures.1
