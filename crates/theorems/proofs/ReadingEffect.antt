-- What document 02 (f) says of the duty on two volumes that differ in one ratio. Assumes nothing.
use mathlib.Core.Path.{◌≡◌, refl, ap, ◌∙◌}
use mathlib.Core.List.{List, [], ◌∷◌}
use mathlib.Core.Logic.{⊎_elim}
use mathlib.Core.Option.{some, some-injective, none-ne-some}
use Prim.Native.Nat.{ℕ, zero, suc, ◌+◌, ◌-◌, ◌*◌, ◌/◌, ◌≤◌, ◌<◌}
use native.Mathlib.Nat.{mul_comm, mul-add, add-mul, mul_right_comm}
use native.Mathlib.Omega.{arith}
use lib.ListN.{length, get_elem?, set, length-set}
use Rattle.laws.specs.Result.{accepted}
use Rattle.laws.proofs.Lists.{below_or_not}
use Rattle.word.specs.Bytes.{AllBytes}
use Rattle.varint.specs.Number.{read_groups, number, groups}
use Rattle.volume.specs.declared.Entry.{Entry}
use Rattle.volume.specs.Volume.{entry_string, entries_string, volume_string}
use Rattle.volume.specs.Calls.{read_value, read_entry, read_entries, entries_in}
use Rattle.volume.proofs.Ranges.{volume_in_range}
use Rattle.volume.proofs.Undo.{volume_back, volume_bytes}
use Rattle.rates.specs.Rates.{our_rates, rate_of}
use Rattle.duty.specs.Duty.{entry_duty, entries_duty}
use Rattle.duty.specs.Calls.{volume_duty}
use Rattle.theorems.specs.ShiftVolume.{InRange, AllInRange}
use Rattle.theorems.specs.ReadingEffect.{with_ratio, distance, rounded_up, most_moved, thousand_litres, one_litre, ReadingEffect}
use Rattle.theorems.proofs.ShiftVolume.{entries_all, all_entries}
use Rattle.theorems.proofs.ComponentDuty.{duty_is}

-- ── an entry ──

-- a ratio that is larger by d makes the exact duty larger by litres times rate times d
larger : (litres ratio d rate : ℕ) → litres * (ratio + d) * rate ≡ litres * ratio * rate + litres * rate * d
larger litres ratio d rate = rw (mul-add, add-mul, mul_right_comm litres d rate)

-- two quotients that are cut down
cut_apart : (x n : ℕ) → distance (x / 10000) ((x + n) / 10000) ≤ rounded_up n
cut_apart x n = omega arith

-- where the larger amount is whole cents, the quotients are just so far apart
whole_at_end : (x n sum cents : ℕ) → sum ≡ x + n → sum ≡ 10000 * cents → sum / 10000 ≡ x / 10000 + rounded_up n
whole_at_end x n sum cents s w = omega (arith, s, w)

symmetric : (a b : ℕ) → distance a b ≡ distance b a
symmetric a b = omega arith

module _ (rates : List ℕ) (e : Entry) where
  abbrev rate : ℕ
  rate = rate_of rates e.product

  -- the entry's duty at a ratio
  abbrev duty_at : (ratio : ℕ) → ℕ
  duty_at ratio = e.litres * ratio * rate / 10000

  apart : (ratio other : ℕ) → ratio ≤ other → distance (duty_at ratio) (duty_at other) ≤ most_moved rates e (other - ratio)
  apart ratio other l =
      let d : other ≡ ratio + (other - ratio) = omega (arith, l) in
      let amount : e.litres * other * rate ≡ e.litres * ratio * rate + e.litres * rate * (other - ratio) =
      ap (λ (z : ℕ). e.litres * z * rate) d ∙ larger e.litres ratio (other - ratio) rate in
      rw amount (cut_apart (e.litres * ratio * rate) (e.litres * rate * (other - ratio)))

  entry_moves : (ratio : ℕ) → distance (entry_duty rates e) (entry_duty rates (with_ratio e ratio)) ≤ most_moved rates e (distance e.ratio ratio)
  unfolding entry_duty
  entry_moves ratio =
      ⊎_elim
      (λ l. let d : distance e.ratio ratio ≡ ratio - e.ratio = omega (arith, l) in rw d (apart e.ratio ratio (omega (arith, l))))
      (λ l. let d : distance e.ratio ratio ≡ e.ratio - ratio = omega (arith, l) in
      rw (d, symmetric (duty_at e.ratio) (duty_at ratio)) (apart ratio e.ratio l))
      (below_or_not e.ratio ratio)

  -- at 10,000 nothing is cut off, so that all of the difference is seen
  reached : (d : ℕ) → d ≤ 10000 → entry_duty rates (with_ratio e 10000) ≡ entry_duty rates (with_ratio e (10000 - d)) + most_moved rates e d
  unfolding entry_duty
  reached d l =
      let all : e.litres * 10000 * rate ≡ 10000 * (e.litres * rate) = mul_right_comm e.litres 10000 rate ∙ mul_comm (e.litres * rate) 10000 in
      let parts : e.litres * 10000 * rate ≡ e.litres * (10000 - d) * rate + e.litres * rate * d =
      ap (λ (z : ℕ). e.litres * z * rate) (omega (arith, l)) ∙ larger e.litres (10000 - d) d rate in
      whole_at_end (e.litres * (10000 - d) * rate) (e.litres * rate * d) (e.litres * 10000 * rate) (e.litres * rate) parts all

-- ── entries ──

module _ (rates : List ℕ) (e other : Entry) where
  -- where another entry takes the place of entry k, the sum changes as that entry's duty does
  one_place : (entries : List Entry) (k : ℕ) → get_elem? entries k ≡ some e
      → entries_duty rates (set entries k other) + entry_duty rates e ≡ entries_duty rates entries + entry_duty rates other
  unfolding entries_duty
  one_place [] k h = absurd (none-ne-some e h)
  one_place (first ∷ entries) zero h = let f : first ≡ e = some-injective first e h in rw f (omega arith)
  one_place (first ∷ entries) (suc k) h = omega (arith, one_place entries k h)

entries_move : (rates : List ℕ) (entries : List Entry) (k ratio : ℕ) (e : Entry) → get_elem? entries k ≡ some e
    → distance (entries_duty rates entries) (entries_duty rates (set entries k (with_ratio e ratio))) ≤ most_moved rates e (distance e.ratio ratio)
entries_move rates entries k ratio e h =
    let sum = one_place rates e (with_ratio e ratio) entries k h in
    let one = entry_moves rates e ratio in
    omega (arith, sum, one)

-- ── volumes ──

moves_at_most : (rates string other : List ℕ) (entries : List Entry) (k ratio : ℕ) (e : Entry)
    → entries_in string ≡ accepted entries → get_elem? entries k ≡ some e → entries_in other ≡ accepted (set entries k (with_ratio e ratio))
    → (cents : ℕ) × (otherCents : ℕ) × (volume_duty rates string ≡ accepted cents) × (volume_duty rates other ≡ accepted otherCents)
    × (distance cents otherCents ≤ most_moved rates e (distance e.ratio ratio))
moves_at_most rates string other entries k ratio e s h o =
    let others = set entries k (with_ratio e ratio) in (
      entries_duty rates entries,
      entries_duty rates others,
      duty_is rates string entries s,
      duty_is rates other others o,
      entries_move rates entries k ratio e h,
    )

entry_at : (entries : List Entry) (k : ℕ) → k < length entries → (e : Entry) × (get_elem? entries k ≡ some e)
entry_at [] k l = absurd (omega arith)
entry_at (first ∷ entries) zero l = (first, refl)
entry_at (first ∷ entries) (suc k) l = entry_at entries k (omega (arith, l))

set_in_range : (ratio : ℕ) (e : Entry) → ratio ≤ 10000 → (entries : List Entry) (k : ℕ) → get_elem? entries k ≡ some e
    → AllInRange entries → AllInRange (set entries k (with_ratio e ratio))
set_in_range ratio e l [] k h r = tt
set_in_range ratio e l (first ∷ entries) zero h r =
    let f : first ≡ e = some-injective first e h in
    let i : InRange e = rw f at r.0 in
    (record { minutes = i.minutes; litres = i.litres; ratio = l; product = i.product }, r.1)
set_in_range ratio e l (first ∷ entries) (suc k) h r = (r.0, set_in_range ratio e l entries k h r.1)

every_ratio : (string : List ℕ) (entries : List Entry) (k ratio : ℕ) → entries_in string ≡ accepted entries → k < length entries → ratio ≤ 10000
    → (other : List ℕ) × (e : Entry) × AllBytes other × (get_elem? entries k ≡ some e)
    × (entries_in other ≡ accepted (set entries k (with_ratio e ratio)))
every_ratio string entries k ratio s n l =
    let found = entry_at entries k n in
    let e = found.0 in
    let others = set entries k (with_ratio e ratio) in
    let v = volume_in_range string entries s in
    let count = rw (← length-set entries k (with_ratio e ratio)) at v.count_in_lem in
    let in_range_lem = all_entries others (set_in_range ratio e l entries k found.1 (entries_all entries v.in_range_lem)) in
    (volume_string others, e, volume_bytes others, found.1, volume_back others count in_range_lem)

-- ── the examples ──

example : (volume_duty our_rates (volume_string (thousand_litres ∷ [])) ≡ accepted 3150)
    × (volume_duty our_rates (volume_string (with_ratio thousand_litres 527 ∷ [])) ≡ accepted 3162) × (most_moved our_rates thousand_litres 2 ≡ 12)
unfolding volume_duty entries_in read_entries read_entry read_value read_groups entries_duty entry_duty volume_string entries_string entry_string number groups
example = (refl, refl, refl)

rounding_needed : (volume_duty our_rates (volume_string (one_litre ∷ [])) ≡ accepted 0)
    × (volume_duty our_rates (volume_string (with_ratio one_litre 667 ∷ [])) ≡ accepted 1) × (most_moved our_rates one_litre 2 ≡ 1)
unfolding volume_duty entries_in read_entries read_entry read_value read_groups entries_duty entry_duty volume_string entries_string entry_string number groups
rounding_needed = (refl, refl, refl)

pub reading_effect : ReadingEffect
reading_effect = record {
  only_ratio = λ e ratio. (refl, refl, refl, refl);
  distance_up = λ a d. omega arith;
  distance_down = λ a d. omega arith;
  rounded_up_lem = λ amount cents. ((λ h. omega (arith, h)), (λ h. omega (arith, h)));
  moves_at_most = moves_at_most;
  every_ratio = every_ratio;
  reached = reached;
  example = example;
  rounding_needed = rounding_needed;
}
