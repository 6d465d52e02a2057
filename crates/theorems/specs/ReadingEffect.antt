-- Document 02 (f), how much one reading can shift the duty: 'State for every volume: if one entry's ratio changes by d hundredths and nothing else
-- changes, the total moves by no more than litres times rate times d over 10,000, rounded up, for that entry.' Where a clause names `rates`, it is
-- said of every table of rates.
use Rattle.std.specs.Prelude.{◌≡◌, List, [], ◌∷◌, ◌↔◌, ℕ, ◌+◌, ◌-◌, ◌*◌, ◌/◌, ◌≤◌, ◌<◌, length, set}
use Rattle.std.proofs.Math.Option.{some}
use Rattle.std.proofs.Math.ListN.{get_elem?}
use Rattle.laws.specs.Result.{accepted}
use Rattle.word.specs.Bytes.{AllBytes}
use Rattle.volume.specs.declared.Entry.{Entry}
use Rattle.volume.specs.Volume.{volume_string}
use Rattle.volume.specs.Calls.{entries_in}
use Rattle.rates.specs.Rates.{our_rates, rate_of}
use Rattle.duty.specs.Duty.{entry_duty}
use Rattle.duty.specs.Calls.{volume_duty}

-- the entry with this ratio, and its three other numbers as they are
abbrev pub with_ratio : Entry → (ratio : ℕ) → Entry
with_ratio e ratio = record { minutes = e.minutes; litres = e.litres; ratio = ratio; product = e.product }

-- by how much two ratios, or two totals, differ: at least one of the two differences is 0, for `-` gives 0 where the second number is the larger
abbrev pub distance : (a b : ℕ) → ℕ
distance a b = (a - b) + (b - a)

-- 'over 10,000, rounded up'
abbrev pub rounded_up : (amount : ℕ) → ℕ
rounded_up amount = (amount + 9999) / 10000

-- 'litres times rate times d over 10,000, rounded up, for that entry'
abbrev pub most_moved : (rates : List ℕ) (e : Entry) (d : ℕ) → ℕ
most_moved rates e d = rounded_up (e.litres * rate_of rates e.product * d)

-- 1,000 litres of product 4 at 525 (5.25 percent)
abbrev pub thousand_litres : Entry
thousand_litres = record { minutes = 0; litres = 1000; ratio = 525; product = 4 }

-- 1 litre of product 7 at 665 (6.65 percent)
abbrev pub one_litre : Entry
one_litre = record { minutes = 0; litres = 1; ratio = 665; product = 7 }

-- 'the total moves by no more than litres times rate times d over 10,000, rounded up, for that entry': for every two volumes whose entries are the
-- same but for the ratio of entry k, the first being entry 0, the duty call accepts both, and its two answers differ by no more than the litres of
-- that entry times the rate of its product times the difference of the two ratios over 10,000, rounded up.
abbrev pub MovesAtMost : (rates : List ℕ) → Type 0
MovesAtMost rates =
    (string other : List ℕ) (entries : List Entry) (k ratio : ℕ) (e : Entry)
    → entries_in string ≡ accepted entries → get_elem? entries k ≡ some e → entries_in other ≡ accepted (set entries k (with_ratio e ratio))
    → (cents : ℕ) × (otherCents : ℕ) × (volume_duty rates string ≡ accepted cents) × (volume_duty rates other ≡ accepted otherCents)
    × (distance cents otherCents ≤ most_moved rates e (distance e.ratio ratio))

pub record ReadingEffect : Type 0 where
  -- 'one entry's ratio changes .. and nothing else changes': of the entry's four numbers only the ratio is another.
  pub only_ratio :
      (e : Entry) (ratio : ℕ)
      → ((with_ratio e ratio).minutes ≡ e.minutes) × ((with_ratio e ratio).litres ≡ e.litres) × ((with_ratio e ratio).ratio ≡ ratio)
      × ((with_ratio e ratio).product ≡ e.product)
  -- 'changes by d hundredths', up or down: a number and the same number with d added differ by d, whichever is first.
  pub distance_up : (a d : ℕ) → distance a (a + d) ≡ d
  pub distance_down : (a d : ℕ) → distance (a + d) a ≡ d
  -- 'over 10,000, rounded up': the least number of cents of which 10,000 times is not less than the amount.
  pub rounded_up_lem : (amount cents : ℕ) → (rounded_up amount ≤ cents) ↔ (amount ≤ 10000 * cents)
  -- The bound holds under every table of rates.
  pub moves_at_most : (rates : List ℕ) → MovesAtMost rates
  -- 'for every volume': for every volume, every entry of it and every ratio from 0 to 10,000 there is a volume whose entries are the same but for that
  -- ratio in that entry.
  pub every_ratio :
      (string : List ℕ) (entries : List Entry) (k ratio : ℕ) → entries_in string ≡ accepted entries → k < length entries → ratio ≤ 10000
      → (other : List ℕ) × (e : Entry) × AllBytes other × (get_elem? entries k ≡ some e)
      × (entries_in other ≡ accepted (set entries k (with_ratio e ratio)))
  -- No smaller bound would do, whatever rate, litres and d up to 10,000 are: an entry at 10,000 owes more than the same entry at 10,000 - d by just
  -- litres times rate times d over 10,000, rounded up.
  pub reached :
      (rates : List ℕ) (e : Entry) (d : ℕ) → d ≤ 10000
      → entry_duty rates (with_ratio e 10000) ≡ entry_duty rates (with_ratio e (10000 - d)) + most_moved rates e d
  -- Under our rates 1,000 litres of product 4 owe 3,150 cents at 525 and 3,162 at 527: 12 cents more, which is 1,000 times 60 times 2 over 10,000.
  pub example :
      (volume_duty our_rates (volume_string (thousand_litres ∷ [])) ≡ accepted 3150)
      × (volume_duty our_rates (volume_string (with_ratio thousand_litres 527 ∷ [])) ≡ accepted 3162) × (most_moved our_rates thousand_litres 2 ≡ 12)
  -- Rounding up is needed: under our rates 1 litre of product 7 owes nothing at 665 and 1 cent at 667, and 1 times 15 times 2 over 10,000 is less
  -- than 1.
  pub rounding_needed :
      (volume_duty our_rates (volume_string (one_litre ∷ [])) ≡ accepted 0)
      × (volume_duty our_rates (volume_string (with_ratio one_litre 667 ∷ [])) ≡ accepted 1) × (most_moved our_rates one_litre 2 ≡ 1)
