-- Document 02 (e), duty on the blended part: what an entry and a volume owe, the refusals, and the greatest duty of any volume under our rates. Where
-- a clause names `rates`, it is said of every table of rates.
use Rattle.std.specs.Prelude.{◌≡◌, List, [], ◌∷◌, ◌++◌, map, ◌↔◌, ℕ, ◌+◌, ◌*◌, ◌^◌, ◌≤◌, ◌<◌, replicate}
use Rattle.laws.specs.Result.{refused, accepted}
use Rattle.word.specs.Bytes.{AllBytes}
use Rattle.volume.specs.declared.Entry.{Entry}
use Rattle.volume.specs.Volume.{volume_string}
use Rattle.volume.specs.Calls.{read_volume}
use Rattle.rates.specs.Rates.{our_rates, rate_of}
use Rattle.duty.specs.Duty.{entry_duty, entries_duty}
use Rattle.duty.specs.Calls.{volume_duty}
use Rattle.theorems.specs.ShiftVolume.{Volume}

-- the greatest duty of any volume under our rates, in cents
abbrev pub most_duty : ℕ
most_duty = 24000000000

pub record ComponentDuty : Type 0 where
  -- 'Rates in cents per litre for products 1 to 8 are 120, 95, 95, 60, 40, 40, 15, 0.'
  pub rates_are :
      map (rate_of our_rates) (1 ∷ 2 ∷ 3 ∷ 4 ∷ 5 ∷ 6 ∷ 7 ∷ 8 ∷ []) ≡ 120 ∷ 95 ∷ 95 ∷ 60 ∷ 40 ∷ 40 ∷ 15 ∷ 0 ∷ []
  -- A table of eight rates has those of products 1 to 8, in this order.
  pub rate_of_lem :
      (a b c d e f g h : ℕ)
      → map (rate_of (a ∷ b ∷ c ∷ d ∷ e ∷ f ∷ g ∷ h ∷ [])) (1 ∷ 2 ∷ 3 ∷ 4 ∷ 5 ∷ 6 ∷ 7 ∷ 8 ∷ []) ≡ a ∷ b ∷ c ∷ d ∷ e ∷ f ∷ g ∷ h ∷ []
  -- 'litres times ratio times rate, divided by 10,000 and cut down to whole cents': the one number of cents of which 10,000 times is not more than
  -- litres times ratio times rate, while 10,000 times one cent more is.
  pub entry_owes :
      (rates : List ℕ) (e : Entry) (cents : ℕ)
      → (entry_duty rates e ≡ cents)
      ↔ ((10000 * cents ≤ e.litres * e.ratio * rate_of rates e.product) × (e.litres * e.ratio * rate_of rates e.product < 10000 * (cents + 1)))
  -- 'the sum over entries': what one entry owes, and where entries are split into two lists, the sum of what both owe.
  pub one_entry : (rates : List ℕ) (e : Entry) → entries_duty rates (e ∷ []) ≡ entry_duty rates e
  pub sums : (rates : List ℕ) (entries others : List Entry) → entries_duty rates (entries ++ others) ≡ entries_duty rates entries + entries_duty rates others
  -- The call accepts exactly the volumes, and gives what their entries owe.
  pub volume_owes :
      (rates string : List ℕ) (cents : ℕ) → AllBytes string
      → (volume_duty rates string ≡ accepted cents) ↔ ((entries : List Entry) × Volume string entries × (entries_duty rates entries ≡ cents))
  -- 'An entry of 1,000 litres at 525 (5.25 percent) of product 4 owes 3,150 cents': also as the only entry of a volume.
  pub example : (minutes : ℕ) → entry_duty our_rates (record { minutes = minutes; litres = 1000; ratio = 525; product = 4 }) ≡ 3150
  pub example_volume : volume_duty our_rates (0x01 ∷ 0x00 ∷ 0xE8 ∷ 0x07 ∷ 0x8D ∷ 0x04 ∷ 0x04 ∷ []) ≡ accepted 3150
  -- 'A volume that reading refuses gets the same number here, 8 excepted': no other string is refused, and none with 8.
  pub refused_iff :
      (rates string list : List ℕ) (n : ℕ) → (n ≡ 8 → ⊥) → (volume_duty rates string ≡ refused n) ↔ (read_volume string list ≡ refused n)
  pub never_8 : (rates string : List ℕ) → volume_duty rates string ≡ refused 8 → ⊥
  pub accepted_where_8 :
      (rates string list : List ℕ) → read_volume string list ≡ refused 8 → (cents : ℕ) × (volume_duty rates string ≡ accepted cents)
  -- Under our rates no volume owes more than `most_duty`; 2,000 entries of 100,000 litres at 10,000 of product 1 owe as much; and the answer's 64 bits
  -- hold it, so that no sum wraps.
  pub at_most : (string : List ℕ) (cents : ℕ) → volume_duty our_rates string ≡ accepted cents → cents ≤ most_duty
  pub reached :
      volume_duty our_rates (volume_string (replicate 2000 (record { minutes = 0; litres = 100000; ratio = 10000; product = 1 }))) ≡ accepted most_duty
  pub fits : most_duty < 2 ^ 64
