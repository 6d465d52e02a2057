-- `same_entry` answers true of equal entries and of no others. Assumes nothing.
use mathlib.Core.Path.{◌≡◌, refl, sym, ◌∙◌}
use mathlib.Core.Bool.{Bool, true, false, not, ◌&&◌}
use borrow.Author.Tests.{eq-eqb, eqb-true}
use lib.Dec.{eqb}
use Rattle.laws.proofs.Same.{and_left, and_right, not-true, not-false}
use Rattle.volume.specs.declared.Entry.{Entry}
use Rattle.comparison.specs.Comparison.{same_entry}

pub same_equal : (b g : Entry) → same_entry b g ≡ true → b ≡ g
same_equal b g e =
    let minutes = eqb b.minutes g.minutes in
    let litres = eqb b.litres g.litres in
    let ratio = eqb b.ratio g.ratio in
    let product = eqb b.product g.product in
    let three = and_left (minutes && litres && ratio) product e in
    let two = and_left (minutes && litres) ratio three in
    let m = eqb-true b.minutes g.minutes (and_left minutes litres two) in
    let l = eqb-true b.litres g.litres (and_right minutes litres two) in
    let r = eqb-true b.ratio g.ratio (and_right (minutes && litres) ratio three) in
    let p = eqb-true b.product g.product (and_right (minutes && litres && ratio) product e) in
    λ i. record { minutes = m i; litres = l i; ratio = r i; product = p i }

pub equal_same : (e : Entry) → same_entry e e ≡ true
equal_same e =
    rw (
      eq-eqb e.minutes e.minutes refl,
      eq-eqb e.litres e.litres refl,
      eq-eqb e.ratio e.ratio refl,
      eq-eqb e.product e.product refl,
    )

-- `==` of two entries compares their numbers in the same order
abbrev equal : (b g : Entry) → Bool
equal b g = eqb b.minutes g.minutes && (eqb b.litres g.litres && (eqb b.ratio g.ratio && eqb b.product g.product))

regrouped : (m l r p : Bool) → (m && (l && (r && p))) ≡ (m && l && r && p)
regrouped true true r p = refl
regrouped true false r p = refl
regrouped false l r p = refl

pub equal_is_same : (b g : Entry) → equal b g ≡ same_entry b g
equal_is_same b g = regrouped (eqb b.minutes g.minutes) (eqb b.litres g.litres) (eqb b.ratio g.ratio) (eqb b.product g.product)

pub unequal : (b g : Entry) → not (equal b g) ≡ true → same_entry b g ≡ false
unequal b g e = sym (equal_is_same b g) ∙ not-true (equal b g) e

pub not_unequal : (b g : Entry) → not (equal b g) ≡ false → same_entry b g ≡ true
not_unequal b g e = sym (equal_is_same b g) ∙ not-false (equal b g) e
