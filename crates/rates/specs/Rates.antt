-- Document 02 (e), the duty rates: ours, and the rate of a product in any table of rates.
use Rattle.std.specs.Prelude.{List, [], ◌∷◌, ℕ, get_or}

-- 'Rates in cents per litre for products 1 to 8 are 120, 95, 95, 60, 40, 40, 15, 0.'
abbrev pub our_rates : List ℕ
our_rates = 120 ∷ 95 ∷ 95 ∷ 60 ∷ 40 ∷ 40 ∷ 15 ∷ 0 ∷ []

-- the rate of a product in a table of rates, whose first is that of product 1; 0 where the table has none
abbrev pub rate_of : (rates : List ℕ) (product : ℕ) → ℕ
rate_of rates product = get_or (0 ∷ rates) product 0
