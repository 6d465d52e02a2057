-- The bytes after the position are not as many as the tables: 11.
use Rattle.std.proofs.Common.{◌≡◌, ◌*◌, ◌≤◌, arith, drop, length, length-drop}
use borrow.Author.Tests.{ne_eqb, le-leb}
use Rattle.cipher.specs.Numbers.{area_length}
use Rattle.conditions.specs.Limit.{limit}
use Rattle.conditions.specs.Conditions.{contents_in}
use Rattle.conditions.proofs.Beginnings.{position_read_lem}
use Rattle.conditions.proofs.beginning_in.Goals as goal

pub returns-then-left-area_words-clause-answer : goal.returns-then-left-area_words-clause-answer
unfolding contents_in
returns-then-left-area_words-clause-answer c =
    let string = c.args.string.now in
    let found = c.in_ok-stated.field-0 in
    let n = length-drop found.next string in
    let l : found.value ≤ limit = omega arith in
    let w : length (drop found.next string) ≡ 4 * area_length c.args.cipher → ⊥ = λ e. c.if-left-area_words.true (omega arith) in
    rw (position_read_lem string found c.in_ok-stated.ensures, le-leb found.value limit l, ne_eqb _ _ w)
