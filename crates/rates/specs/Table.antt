-- Document 02 (n), the refinery's own duty rates: what a table is that loads, and the rates that it has.
use Rattle.std.specs.Prelude.{◌≡◌, cond, List, [], ◌∷◌, ◌++◌, map, ℕ, ◌≤◌, ◌<◌, eqb, length}
use Rattle.varint.specs.Number.{number}
use Rattle.rates.specs.declared.Pair.{Pair}

-- 'pairs of product and rate in our groups of seven': the string of a pair, and of pairs one after the other
unfoldable pub pair_string : Pair → List ℕ
pair_string pair = number pair.product ++ number pair.rate

unfoldable pub pairs_string : List Pair → List ℕ
pairs_string [] = []
pairs_string (pair ∷ pairs) = pair_string pair ++ pairs_string pairs

-- 'a count, 0 to 8, then that many pairs': the string of a table
unfoldable pub table_string : List Pair → List ℕ
table_string pairs = number (length pairs) ++ pairs_string pairs

-- 'products 1 to 8, each above the one before, rates 0 to 65,535': `last` is the product of the pair before, 0 before the first
pub record PairInOrder (last : ℕ) (pair : Pair) : Type 0 where
  pub product : (1 ≤ pair.product) × (pair.product ≤ 8)
  pub above : last < pair.product
  pub rate : pair.rate ≤ 65535

abbrev pub InOrder : (last : ℕ) → List Pair → Type 0
InOrder last [] = Unit {0}
InOrder last (pair ∷ pairs) = PairInOrder last pair × InOrder pair.product pairs

-- the product of the last of these pairs, or `last` where there is none
unfoldable pub last_product : (last : ℕ) → List Pair → ℕ
last_product last [] = last
last_product last (pair ∷ pairs) = last_product pair.product pairs

-- the string is the table of these pairs
pub record Table (string : List ℕ) (pairs : List Pair) : Type 0 where
  pub count : length pairs ≤ 8
  pub in_order : InOrder 0 pairs
  pub string_is : string ≡ table_string pairs

-- the rate of a product among pairs: 'A product without a pair has rate 0.'
unfoldable pub rate_among : List Pair → (product : ℕ) → ℕ
rate_among [] product = 0
rate_among (pair ∷ pairs) product = cond (eqb pair.product product) pair.rate (rate_among pairs product)

-- the rates of products 1 to 8 that pairs give
unfoldable pub rates_of : List Pair → List ℕ
rates_of pairs = map (rate_among pairs) (1 ∷ 2 ∷ 3 ∷ 4 ∷ 5 ∷ 6 ∷ 7 ∷ 8 ∷ [])
