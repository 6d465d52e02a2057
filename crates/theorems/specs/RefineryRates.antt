-- Document 02 (n), the refinery's own duty rates: which strings load and which rates they give, each refusal exactly where it is due, the table in
-- use after any loadings, and the bound on one reading's effect and the greatest duty under every table that loads.
use Rattle.std.specs.Prelude.{◌≡◌, ◌↔◌, ℕ, ◌^◌, ◌≤◌, ◌<◌, length, replicate}
use mathlib.Core.List.{List, [], ◌∷◌, ◌++◌, Memᴰ}
use Rattle.laws.specs.Result.{refused, accepted}
use Rattle.word.specs.Bytes.{AllBytes}
use Rattle.varint.specs.Number.{number}
use Rattle.volume.specs.Volume.{volume_string}
use Rattle.rates.specs.declared.Pair.{Pair}
use Rattle.rates.specs.Rates.{our_rates, rate_of}
use Rattle.rates.specs.Table.{pairs_string, InOrder, last_product, Table, rates_of}
use Rattle.rates.specs.Calls.{load_rates, load_rates_call}
use Rattle.duty.specs.Calls.{volume_duty}
use Rattle.theorems.specs.ReadingEffect.{MovesAtMost}

-- 'a product not above the one before, in reading order': a count, then pairs in order, fewer than it says, then a product from 1 to 8 that is not
-- above the one before, then any bytes
pub record NotAbove (string : List ℕ) : Type 0 where
  pub count : ℕ
  pub before : List Pair
  pub product : ℕ
  pub rest : List ℕ
  pub string_is : string ≡ number count ++ (pairs_string before ++ (number product ++ rest))
  pub count_in_lem : count ≤ 8
  pub in_order : InOrder 0 before
  pub fewer : length before < count
  pub product_in : (1 ≤ product) × (product ≤ 8)
  pub not_above : product ≤ last_product 0 before

-- the table in use after these strings were given to loading, one after the other
unfoldable pub in_use_after : (inUse : List ℕ) → (strings : List (List ℕ)) → List ℕ
in_use_after inUse [] = inUse
in_use_after inUse (string ∷ strings) = in_use_after (load_rates_call inUse string).value strings

-- none of these strings loads
abbrev pub NoneLoads : List (List ℕ) → Type 0
NoneLoads [] = Unit {0}
NoneLoads (string ∷ strings) = ((n : ℕ) × (load_rates string ≡ refused n)) × NoneLoads strings

-- the greatest duty of any volume under any table whose rates are at most 65,535, in cents
abbrev pub most_own_duty : ℕ
most_own_duty = 13107000000000

pub record RefineryRates : Type 0 where
  -- 'a count, 0 to 8, then that many pairs of product and rate in our groups of seven, three at most, products 1 to 8, each above the one before,
  -- rates 0 to 65,535': exactly such strings load, and they give the rates of their pairs. No number in these ranges has more than three groups.
  pub loads_iff :
      (string rates : List ℕ) → AllBytes string
      → (load_rates string ≡ accepted rates) ↔ ((pairs : List Pair) × Table string pairs × (rates_of pairs ≡ rates))
  -- Where the table of these pairs is loaded, the product of a pair has the rate of the pair. 'A product without a pair has rate 0.'
  pub with_pair :
      (string rates : List ℕ) (pairs : List Pair) (pair : Pair) → Table string pairs → load_rates string ≡ accepted rates → Memᴰ pair pairs
      → rate_of rates pair.product ≡ pair.rate
  pub without_pair :
      (string rates : List ℕ) (pairs : List Pair) (product : ℕ) → Table string pairs → load_rates string ≡ accepted rates
      → ((pair : Pair) → Memᴰ pair pairs → pair.product ≡ product → ⊥) → rate_of rates product ≡ 0
  -- Every table that loads has eight rates, from 0 to 65,535, and every such table can be loaded, ours too.
  pub rates_in :
      (string rates : List ℕ) → load_rates string ≡ accepted rates → (length rates ≡ 8) × ((product : ℕ) → rate_of rates product ≤ 65535)
  pub every_table :
      (a b c d e f g h : ℕ) → a ≤ 65535 → b ≤ 65535 → c ≤ 65535 → d ≤ 65535 → e ≤ 65535 → f ≤ 65535 → g ≤ 65535 → h ≤ 65535
      → (string : List ℕ) × AllBytes string × (load_rates string ≡ accepted (a ∷ b ∷ c ∷ d ∷ e ∷ f ∷ g ∷ h ∷ []))
  -- 'with 25 a product not above the one before, in reading order, 24 where one number earns both': 25 exactly there, and 24 for every other string
  -- that does not load.
  pub refused_25 : (string : List ℕ) → AllBytes string → (load_rates string ≡ refused 25) ↔ NotAbove string
  pub refused_24 :
      (string : List ℕ) → AllBytes string
      → (load_rates string ≡ refused 24) ↔ ((NotAbove string → ⊥) × ((pairs : List Pair) → Table string pairs → ⊥))
  -- 'in place of ours', and of whatever table is in use; 'then the table in use stays'.
  pub replaces :
      (inUse string rates : List ℕ) → load_rates string ≡ accepted rates → load_rates_call inUse string ≡ record { refusal = 0; value = rates }
  pub stays :
      (inUse string : List ℕ) (n : ℕ) → load_rates string ≡ refused n → load_rates_call inUse string ≡ record { refusal = n; value = inUse }
  -- After any loadings the table in use is that of the last string that loads, and the one from before them where none loads.
  pub in_use_last :
      (inUse string rates : List ℕ) (before after : List (List ℕ)) → load_rates string ≡ accepted rates → NoneLoads after
      → in_use_after inUse (before ++ (string ∷ after)) ≡ rates
  pub in_use_stays : (inUse : List ℕ) (strings : List (List ℕ)) → NoneLoads strings → in_use_after inUse strings ≡ inUse
  -- 'The bound on one reading's effect holds under every table that loads': and under the table in use after any loadings, from ours on.
  pub moves_at_most : (string rates : List ℕ) → load_rates string ≡ accepted rates → MovesAtMost rates
  pub in_use_moves : (strings : List (List ℕ)) → MovesAtMost (in_use_after our_rates strings)
  -- Under a table whose rates are at most 65,535, also one that the caller made up, no volume owes more than `most_own_duty`; under the table of one
  -- pair, product 1 with rate 65,535, 2,000 entries of 100,000 litres at 10,000 of product 1 owe as much; and the answer's 64 bits hold it, so that
  -- no sum wraps.
  pub at_most :
      (rates string : List ℕ) (cents : ℕ) → ((product : ℕ) → rate_of rates product ≤ 65535) → volume_duty rates string ≡ accepted cents
      → cents ≤ most_own_duty
  pub reached :
      (rates : List ℕ) × (load_rates (0x01 ∷ 0x01 ∷ 0xFF ∷ 0xFF ∷ 0x03 ∷ []) ≡ accepted rates)
      × (volume_duty rates (volume_string (replicate 2000 (record { minutes = 0; litres = 100000; ratio = 10000; product = 1 })))
      ≡ accepted most_own_duty)
  pub fits : most_own_duty < 2 ^ 64
  -- Tables that load: of no pairs, where every product has rate 0; of one pair with rate 0; and of products 2 and 4, where the others have rate 0.
  pub no_pairs : load_rates (0x00 ∷ []) ≡ accepted (replicate 8 0)
  pub rate_0 : load_rates (0x01 ∷ 0x01 ∷ 0x00 ∷ []) ≡ accepted (replicate 8 0)
  pub two_pairs :
      load_rates (0x02 ∷ 0x02 ∷ 0xC8 ∷ 0x01 ∷ 0x04 ∷ 0x46 ∷ []) ≡ accepted (0 ∷ 200 ∷ 0 ∷ 70 ∷ 0 ∷ 0 ∷ 0 ∷ 0 ∷ [])
  -- Product 4 after product 4 gets 25, but after a count of 9, which comes first, 24.
  pub same_product : load_rates (0x02 ∷ 0x04 ∷ 0x3C ∷ 0x04 ∷ 0x3C ∷ []) ≡ refused 25
  pub count_9 : load_rates (0x09 ∷ 0x04 ∷ 0x3C ∷ 0x04 ∷ 0x3C ∷ []) ≡ refused 24
  -- Product 0 after product 4, which is out of its range and not above the one before, gets 24.
  pub product_0 : load_rates (0x02 ∷ 0x04 ∷ 0x3C ∷ 0x00 ∷ 0x3C ∷ []) ≡ refused 24
  -- A string that ends before its second pair gets 24, but one that ends after a product that is not above the one before gets 25.
  pub second_missing : load_rates (0x02 ∷ 0x04 ∷ 0x3C ∷ []) ≡ refused 24
  pub rate_missing : load_rates (0x02 ∷ 0x04 ∷ 0x3C ∷ 0x02 ∷ []) ≡ refused 25
