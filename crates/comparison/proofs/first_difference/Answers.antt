-- `comparison::first_difference` meets its contract: entry by entry, up to the first place where the two don't have the same.
use Rattle.std.proofs.Common.{sym, ◌∙◌, refl, arith}
use Rattle.comparison.proofs.Differences.{starts, turns, differ, ended}
use Rattle.comparison.proofs.SameEntry.{unequal, not_unequal}
use Rattle.comparison.proofs.first_difference.Goals as goal

pub loop-k-init : goal.loop-k-init
loop-k-init c = (c.requires.0, c.requires.1, starts _ _ _ _ _ _)

pub returns-then-ne : goal.returns-then-ne
returns-then-ne c =
    let l = c.loop-k in
    let b = c.read_entry-b in
    let g = c.read_entry-g in
    let least = c.min-k-end.ensures in
    differ _ _ _ _ _ _ l.k _ _ l.invariant.2 (omega arith) (omega arith) b.result g.result b.ensures.0 g.ensures.0
    (λ i. let x = c.type_inv.blender i in omega arith) (λ i. let x = c.type_inv.gauge i in omega arith) l.invariant.0 l.invariant.1
    (unequal b.result.value g.result.value (sym c.ne.ensures ∙ c.if-ne.true)) _ c.rest.ensures

pub loop-k-preserved : goal.loop-k-preserved
loop-k-preserved c =
    let l = c.loop-k in
    let b = c.read_entry-b in
    let g = c.read_entry-g in
    let least = c.min-k-end.ensures in (
      b.ensures.1,
      g.ensures.1,
      turns _ _ _ _ _ _ l.k _ _ l.invariant.2 (omega arith) (omega arith) b.result g.result b.ensures.0 g.ensures.0
          (not_unequal b.result.value g.result.value (sym c.ne.ensures ∙ c.if-ne.false)),
    )

pub returns : goal.returns
returns c =
    let l = c.loop-k in
    let least = c.min-k-end.ensures in
    ended _ _ _ _ _ _ l.k _ _ l.invariant.2 _
    (λ i. let x = c.type_inv.blender i in omega arith) (λ i. let x = c.type_inv.gauge i in omega arith) l.invariant.0 l.invariant.1
    (omega arith) (omega arith) _ refl c.rest-2.ensures
