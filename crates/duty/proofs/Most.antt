-- How much an entry, and a list of entries, owes at most under a table of rates. Assumes nothing.
use mathlib.Core.Path.{◌≡◌}
use mathlib.Core.Bool.{true}
use mathlib.Core.List.{List, [], ◌∷◌}
use mathlib.Core.Logic.{⊎_elim}
use Prim.Native.Nat.{ℕ, zero, suc, ◌*◌, ◌≤◌}
use native.Mathlib.Nat.{mul-le-mul, div-le_of_le-mul}
use native.Mathlib.Omega.{arith}
use lib.ListN.{length, get_or, get_or-eq_default}
use Rattle.laws.proofs.Lists.{below_or_not, eight_cases}
use Rattle.laws.proofs.Same.{and_left, and_right}
use Rattle.volume.specs.declared.Entry.{Entry}
use Rattle.volume.specs.Volume.{litres_range, ratio_range, entry_in_range, entries_in_range}
use Rattle.volume.proofs.Values.{range_most}
use Rattle.volume.proofs.Ranges.{litres_in, ratio_in}
use Rattle.rates.specs.Rates.{our_rates, rate_of}
use Rattle.duty.specs.Duty.{exact_duty, entry_duty, entries_duty}

-- no rate of the table is over `most`
abbrev pub RatesAtMost : (most : ℕ) → List ℕ → Type 0
RatesAtMost most rates = (product : ℕ) → rate_of rates product ≤ most

module _ (most : ℕ) (rates : List ℕ) where
  pub exact_most : (e : Entry) → e.litres ≤ 100000 → e.ratio ≤ 10000 → rate_of rates e.product ≤ most → exact_duty rates e ≤ 1000000000 * most
  exact_most e l r h = mul-le-mul (mul-le-mul l r) h

  entry_most : (e : Entry) → e.litres ≤ 100000 → e.ratio ≤ 10000 → rate_of rates e.product ≤ most → entry_duty rates e ≤ 100000 * most
  unfolding entry_duty
  entry_most e l r h = div-le_of_le-mul 10000 (omega (arith, exact_most e l r h))

  pub entries_most : RatesAtMost most rates → (entries : List Entry) → entries_in_range entries ≡ true
      → entries_duty rates entries ≤ length entries * (100000 * most)
  unfolding entries_duty entries_in_range
  entries_most h [] t = omega arith
  entries_most h (e ∷ entries) t =
      let first = and_left (entry_in_range e) (entries_in_range entries) t in
      let others = entries_most h entries (and_right (entry_in_range e) (entries_in_range entries) t) in
      let litres = range_most litres_range e.litres (litres_in e first) in
      let one = entry_most e litres (range_most ratio_range e.ratio (ratio_in e first)) (h e.product) in
      omega (arith, one, others)

pub our_rates_most : RatesAtMost 120 our_rates
our_rates_most zero = omega arith
our_rates_most (suc product) =
    let case = eight_cases (λ i. get_or our_rates i 0 ≤ 120) (omega arith) (omega arith) (omega arith) (omega arith) in
    ⊎_elim (case (omega arith) (omega arith) (omega arith) (omega arith) product)
    (λ h. rw (get_or-eq_default our_rates 0 {n = product} h) (omega arith))
    (below_or_not product 8)
