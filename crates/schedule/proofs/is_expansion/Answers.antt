-- A word that does not follow the rule of Wi shows that the area is not filled by the words that it leads back to; where all follow it, it is.
use Rattle.std.proofs.Common.{arith, sym, ◌∙◌, below_more}
use Rattle.laws.proofs.Same.{equal_same, not_true_is_false, same_equal}
use Rattle.schedule.proofs.Unexpansion.{next_from, follows_filled, filled_follows}
use Rattle.schedule.proofs.is_expansion.Goals as goal

pub returns-then-area-k : goal.returns-then-area-k
returns-then-area-k c =
    let e = c.half_table-half.ensures.0 in
    let a = c.args.area.now in
    let k = c.loop-k.k in
    sym (not_true_is_false _
    (λ t.
    c.if-area-k.true
    (filled_follows c.args.cipher a c.requires (λ i. (c.type_inv.area i).fits) (same_equal a _ t) k (omega arith) (omega arith)
    ∙ next_from a _ k (omega arith)
    ∙ sym (rw e at c.next_at-next.ensures))))

pub loop-k-preserved : goal.loop-k-preserved
loop-k-preserved c =
    let l = c.loop-k in
    below_more _ l.k l.invariant (λ b. c.if-area-k.false ∙ c.next_at-next.ensures ∙ sym (next_from _ _ l.k b))

pub returns : goal.returns
returns c =
    let e = c.half_table-half.ensures.0 in
    sym (equal_same _ _
    (follows_filled c.args.cipher c.args.area.now c.requires (λ i. (c.type_inv.area i).fits)
    (λ i l b. rw e at (c.loop-k.invariant i (omega arith) b))))
