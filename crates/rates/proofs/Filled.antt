-- A table that is filled with the rates of pairs, one after the other, has the rates of the pairs where they are in order. Assumes nothing.
use mathlib.Core.Path.{◌≡◌, refl, sym, ap, ◌∙◌}
use mathlib.Core.Logic.{⊎_elim, ◌⊎◌, inl, inr}
use mathlib.Core.List.{List, [], ◌∷◌}
use Prim.Native.Nat.{ℕ, ◌+◌, ◌-◌, ◌<◌, ◌≤◌}
use native.Mathlib.Omega.{arith}
use borrow.Author.Tests.{eq-eqb, ne_eqb}
use lib.ListN.{length, get_or, set, replicate, length-set}
use lib.Seq.{get_or-set_same, get_or-set_other, ext_get_or}
use Rattle.laws.proofs.Lists.{below_or_not, eight_cases}
use Rattle.rates.specs.declared.Pair.{Pair}
use Rattle.rates.specs.Table.{InOrder, rate_among, rates_of}

abbrev pub filled : List ℕ → List Pair → List ℕ
filled cents [] = cents
filled cents (pair ∷ pairs) = filled (set cents (pair.product - 1) pair.rate) pairs

filled_length : (cents : List ℕ) (pairs : List Pair) → length (filled cents pairs) ≡ length cents
filled_length cents [] = refl
filled_length cents (pair ∷ pairs) =
    filled_length (set cents (pair.product - 1) pair.rate) pairs ∙ length-set cents (pair.product - 1) pair.rate

-- the rates of products up to that of the pair before stay
below_stay : (last : ℕ) (cents : List ℕ) (pairs : List Pair) (i : ℕ) → InOrder last pairs → i < last → get_or (filled cents pairs) i 0 ≡ get_or cents i 0
below_stay last cents [] i h l = refl
below_stay last cents (pair ∷ pairs) i h l =
    let a = h.0.above in
    below_stay pair.product (set cents (pair.product - 1) pair.rate) pairs i h.1 (omega (arith, a, l))
    ∙ get_or-set_other cents (pair.product - 1) i pair.rate 0 (λ e. omega (arith, a, l, e))

equal_or_not : (a b : ℕ) → (a ≡ b) ⊎ (a ≡ b → ⊥)
equal_or_not a b =
    ⊎_elim (λ (l : a < b). inr (λ e. omega (arith, l, e)))
    (λ (l : b ≤ a). ⊎_elim (λ (m : b < a). inr (λ e. omega (arith, m, e))) (λ (m : a ≤ b). inl (omega (arith, l, m))) (below_or_not b a))
    (below_or_not a b)

-- a product whose rate is 0 so far gets that of its pair, and has 0 without one
filled_at : (last : ℕ) (cents : List ℕ) (pairs : List Pair) (i : ℕ) → length cents ≡ 8 → InOrder last pairs → get_or cents i 0 ≡ 0
    → get_or (filled cents pairs) i 0 ≡ rate_among pairs (i + 1)
unfolding rate_among
filled_at last cents [] i n h z = z
filled_at last cents (pair ∷ pairs) i n h z =
    let product = pair.product in
    let p = h.0.product in
    let next = set cents (product - 1) pair.rate in
    ⊎_elim
    (λ (e : product ≡ i + 1).
    let at : product - 1 ≡ i = omega (arith, e) in
    below_stay product next pairs i h.1 (omega (arith, e))
    ∙ ap (λ (j : ℕ). get_or (set cents j pair.rate) i 0) at
    ∙ get_or-set_same cents i pair.rate 0 (omega (arith, p.1, n, e))
    ∙ rw (eq-eqb product (i + 1) e))
    (λ (e : product ≡ i + 1 → ⊥).
    let other : i ≡ product - 1 → ⊥ = λ q. e (omega (arith, p.0, q)) in
    filled_at product next pairs i (length-set cents (product - 1) pair.rate ∙ n) h.1
    (get_or-set_other cents (product - 1) i pair.rate 0 other ∙ z)
    ∙ rw (ne_eqb product (i + 1) e))
    (equal_or_not product (i + 1))

pub rates_length : (pairs : List Pair) → length (rates_of pairs) ≡ 8
unfolding rates_of
rates_length pairs = refl

pub rates_at : (pairs : List Pair) (i : ℕ) → i < 8 → get_or (rates_of pairs) i 0 ≡ rate_among pairs (i + 1)
unfolding rates_of
rates_at pairs = eight_cases (λ i. get_or (rates_of pairs) i 0 ≡ rate_among pairs (i + 1)) refl refl refl refl refl refl refl refl

zeros : (i : ℕ) → i < 8 → get_or {A = ℕ} (replicate 8 0) i 0 ≡ 0
zeros = eight_cases (λ i. get_or {A = ℕ} (replicate 8 0) i 0 ≡ 0) refl refl refl refl refl refl refl refl

pub filled_rates : (last : ℕ) (pairs : List Pair) → InOrder last pairs → filled (replicate 8 0) pairs ≡ rates_of pairs
filled_rates last pairs h =
    let n = filled_length (replicate 8 0) pairs in
    ext_get_or 0 (filled (replicate 8 0) pairs) (rates_of pairs) (n ∙ sym (rates_length pairs))
    (λ i l.
    let b : i < 8 = omega (arith, n, l) in
    filled_at last (replicate 8 0) pairs i refl h (zeros i b)
    ∙ sym (rates_at pairs i b))
