-- The rate of a product among pairs, and in the table that they give. Assumes nothing.
use mathlib.Core.Path.{◌≡◌, refl, ap, ◌∙◌}
use mathlib.Core.Bool.{Bool, true, false, cond}
use mathlib.Core.List.{List, [], ◌∷◌, Memᴰ}
use mathlib.Core.Logic.{⊎_elim}
use Prim.Native.Nat.{ℕ, zero, suc, ◌<◌, ◌≤◌}
use native.Mathlib.Numerals.{add-one}
use native.Mathlib.Omega.{arith}
use borrow.Author.Tests.{eq-eqb, ne_eqb}
use lib.Dec.{eqb}
use lib.ListN.{get_or-eq_default}
use Rattle.laws.proofs.Lists.{below_or_not}
use Rattle.rates.specs.declared.Pair.{Pair}
use Rattle.rates.specs.Rates.{rate_of}
use Rattle.rates.specs.Table.{InOrder, rate_among, rates_of}
use Rattle.rates.proofs.Filled.{rates_length, rates_at}

-- what holds of 0 and of the rate of each product from 1 to 8 among the pairs holds of every rate of their table
pub each_rate : (P : ℕ → Type 0) (pairs : List Pair) (product : ℕ) → P 0 → P (rate_among pairs product) → P (rate_of (rates_of pairs) product)
each_rate P pairs zero z h = z
each_rate P pairs (suc i) z h =
    ⊎_elim
    (λ (l : i < 8). rw (rates_at pairs i l, add-one i) h)
    (λ (l : 8 ≤ i). rw (get_or-eq_default (rates_of pairs) 0 {n = i} (rw (rates_length pairs) l)) z)
    (below_or_not i 8)

pub rate_in_table : (pairs : List Pair) (product : ℕ) → 1 ≤ product → product ≤ 8 → rate_of (rates_of pairs) product ≡ rate_among pairs product
rate_in_table pairs zero l h = absurd (omega arith)
rate_in_table pairs (suc i) l h = rates_at pairs i (omega (arith, h)) ∙ ap (rate_among pairs) (add-one i)

-- every pair after others in order is above them, and has a product from 1 to 8
pub pair_above : (last : ℕ) (pairs : List Pair) (pair : Pair) → InOrder last pairs → Memᴰ pair pairs
    → (last < pair.product) × (1 ≤ pair.product) × (pair.product ≤ 8)
pair_above last [] pair h e = elim e [ ]
pair_above last (first ∷ pairs) pair h (Memᴰ.head e) = rw e (h.0.above, h.0.product.0, h.0.product.1)
pair_above last (first ∷ pairs) pair h (Memᴰ.tail m) =
    let a = pair_above first.product pairs pair h.1 m in
    (omega (arith, h.0.above, a.0), a.1, a.2)

pub among_pair : (last : ℕ) (pairs : List Pair) (pair : Pair) → InOrder last pairs → Memᴰ pair pairs
    → rate_among pairs pair.product ≡ pair.rate
unfolding rate_among
among_pair last [] pair h e = elim e [ ]
among_pair last (first ∷ pairs) pair h (Memᴰ.head e) = rw (e, eq-eqb first.product first.product refl)
among_pair last (first ∷ pairs) pair h (Memᴰ.tail m) =
    let a = pair_above first.product pairs pair h.1 m in
    rw (ne_eqb first.product pair.product (λ e. omega (arith, a.0, e))) (among_pair first.product pairs pair h.1 m)

pub among_none : (pairs : List Pair) (product : ℕ) → ((pair : Pair) → Memᴰ pair pairs → pair.product ≡ product → ⊥)
    → rate_among pairs product ≡ 0
unfolding rate_among
among_none [] product h = refl
among_none (first ∷ pairs) product h =
    rw (ne_eqb first.product product (h first (Memᴰ.head refl))) (among_none pairs product (λ pair m. h pair (Memᴰ.tail m)))

either_most : (b : Bool) (x y most : ℕ) → x ≤ most → y ≤ most → cond b x y ≤ most
either_most true x y most h l = h
either_most false x y most h l = l

pub among_most : (last : ℕ) (pairs : List Pair) (product : ℕ) → InOrder last pairs → rate_among pairs product ≤ 65535
unfolding rate_among
among_most last [] product h = omega arith
among_most last (first ∷ pairs) product h =
    either_most (eqb first.product product) first.rate (rate_among pairs product) 65535 h.0.rate
    (among_most first.product pairs product h.1)
