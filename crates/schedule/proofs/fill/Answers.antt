-- What follows the words before W(T/2) is the expansion, and fills the area.
use Rattle.std.proofs.Common.{◌≡◌, ◌-◌, ◌/◌, ◌++◌, [], length, drop, arith, rules, ◌∙◌}
use Rattle.std.proofs.lemmas.List.{append-nil, drop_all}
use Rattle.std.proofs.lemmas.Slice.{drop-append-drop}
use lib.Seq.{length-take-le}
use Rattle.cipher.specs.Numbers.{table_length, area_length}
use Rattle.schedule.proofs.Expansion.{sizes}
use Rattle.schedule.proofs.Run.{filled_run}
use Rattle.schedule.proofs.fill.Goals as goal

pub returns : goal.returns
returns c =
    let cipher = c.args.cipher in
    let half = c.half_table-half.result in
    let words = c.expansion_words.result - half in
    let old = c.args.area.now in
    let e = c.half_table-half.ensures.0 in
    let z = sizes cipher in
    let n : length c.args.w ≡ 16 = search rules in
    let part : length c.expand-v.new.area ≡ half - 16 = c.expand-v.auto.area ∙ length-take-le (half - 16) old (omega arith) in
    let short : length c.expand-v.new.area ≡ table_length cipher / 2 - 16 = rw e at part in
    let long : length c.expand.new.area ≡ area_length cipher = search rules in
    let rest : drop words (c.expand-v.new.area ++ drop (half - 16) old) ≡ [] =
    drop-append-drop (half - 16) old c.expand-v.new.area words (omega arith) part ∙ drop_all words old (omega arith) in
    rw (rest, append-nil c.expand.new.area)
    (filled_run cipher c.args.w _ _ _ n short long (rw short at c.expand-v.ensures.1) c.expand-v.ensures.0 (rw e at c.expand.ensures.0))
