-- Document 02 (e), duty on the blended part: the duty of an entry and of a list of entries, under a table of rates.
use Rattle.std.specs.Prelude.{List, [], ◌∷◌, ℕ, ◌+◌, ◌*◌, ◌/◌}
use Rattle.volume.specs.declared.Entry.{Entry}
use Rattle.rates.specs.Rates.{rate_of}

-- 'For an entry it is litres times ratio times rate, ..': the duty in ten-thousandths of a cent
abbrev pub exact_duty : (rates : List ℕ) → Entry → ℕ
exact_duty rates e = e.litres * e.ratio * rate_of rates e.product

-- '.. divided by 10,000 and cut down to whole cents; ..'
unfoldable pub entry_duty : (rates : List ℕ) → Entry → ℕ
entry_duty rates e = exact_duty rates e / 10000

-- '.. for the volume it is the sum over entries.'
unfoldable pub entries_duty : (rates : List ℕ) → List Entry → ℕ
entries_duty rates [] = 0
entries_duty rates (e ∷ entries) = entry_duty rates e + entries_duty rates entries
