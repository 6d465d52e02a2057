-- Document 02 (n), loading a table, as a definition of the table in use and a string: the result, which is the refusal or the rates that are loaded,
-- and the outcome, which is the refusal and the table in use after it.
use Rattle.std.specs.Prelude.{List, [], ◌∷◌, ℕ, zero, suc, ltb}
use Rattle.laws.specs.Result.{Result, refused, accepted, Outcome, outcome, ◌>>=◌, ◌>>◌, refuse◌unless◌}
use Rattle.volume.specs.declared.Range.{Range}
use Rattle.volume.specs.Volume.{◌to◌, product_range}
use Rattle.volume.specs.Calls.{read_value, is_empty}
use Rattle.rates.specs.declared.Pair.{Pair}
use Rattle.rates.specs.Table.{rates_of}

-- 'a count, 0 to 8'
abbrev pub pair_count_range : Range
pair_count_range = 0 to 8

-- 'rates 0 to 65,535'; 'products 1 to 8' is the range of a volume's products
abbrev pub rate_range : Range
rate_range = 0 to 65535

-- 24: whatever reading refuses of a number of a volume, which is 'a number not in shortest form or with a third group that announces another' (14 in
-- a volume), 'a value out of range' (15) and 'bytes missing' (16)
abbrev pub refused_as24 : {A : Type 0} → Result A → Result A
refused_as24 (refused n) = refused 24
refused_as24 (accepted a) = accepted a

pub record PairRead : Type 0 where
  pub pair : Pair
  pub rest : List ℕ

-- a pair at the start of a string; `last` is the product of the pair before, 0 before the first. 25: 'a product not above the one before', '24 where
-- one number earns both'.
unfoldable pub read_pair : (last : ℕ) (string : List ℕ) → Result PairRead
read_pair last string = do
  product ← refused_as24 (read_value product_range string)
  refuse 25 unless ltb last product.value
  rate ← refused_as24 (read_value rate_range product.rest)
  accepted (record { pair = record { product = product.value; rate = rate.value }; rest = rate.rest })

pub record PairsRead : Type 0 where
  pub pairs : List Pair
  pub rest : List ℕ

-- so many pairs at the start of a string, 'in reading order'
unfoldable pub read_pairs : (count last : ℕ) (string : List ℕ) → Result PairsRead
read_pairs zero last string = accepted (record { pairs = []; rest = string })
read_pairs (suc n) last string = do
  first ← read_pair last string
  others ← read_pairs n first.pair.product first.rest
  accepted (record { pairs = first.pair ∷ others.pairs; rest = others.rest })

-- the pairs of a table. 24: bytes 'left over'.
unfoldable pub pairs_in : (string : List ℕ) → Result (List Pair)
pairs_in string = do
  count ← refused_as24 (read_value pair_count_range string)
  read ← read_pairs count.value 0 count.rest
  refuse 24 unless is_empty read.rest
  accepted read.pairs

-- **Loading** gives the rates of the pairs ..
unfoldable pub load_rates : (string : List ℕ) → Result (List ℕ)
load_rates string = do
  pairs ← pairs_in string
  accepted (rates_of pairs)

-- .. 'in place of' the table in use; where it is refused 'the table in use stays'.
unfoldable pub load_rates_call : (inUse string : List ℕ) → Outcome (List ℕ)
load_rates_call inUse string = outcome inUse (load_rates string)

-- how a refusal number and the caller's table make the outcome
abbrev pub rates_left : (refusal : ℕ) (rates : List ℕ) → Outcome (List ℕ)
rates_left refusal rates = record { refusal = refusal; value = rates }
