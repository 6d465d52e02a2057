-- Document 02 (d), the shift volume: entries, the ranges of their numbers, and the string of a volume.
use Rattle.std.specs.Prelude.{Bool, true, ◌&&◌, List, [], ◌∷◌, ◌++◌, ℕ, leb, length}
use Rattle.varint.specs.Number.{number}
use Rattle.volume.specs.declared.Entry.{Entry}
use Rattle.volume.specs.declared.Range.{Range}

infix 20 ◌to◌
abbrev pub ◌to◌ : ℕ → ℕ → Range
◌to◌ least most = record { least = least; most = most }

-- 'A volume is a count of entries, 0 to 2,000, then the entries.'
abbrev pub count_range : Range
count_range = 0 to 2000

-- 'An entry is four numbers: minutes since the previous entry, 0 to 1,440;
abbrev pub minutes_range : Range
minutes_range = 0 to 1440

-- litres, 0 to 100,000;
abbrev pub litres_range : Range
litres_range = 0 to 100000

-- ratio in hundredths of a percent, 0 to 10,000;
abbrev pub ratio_range : Range
ratio_range = 0 to 10000

-- product, 1 to 8.'
abbrev pub product_range : Range
product_range = 1 to 8

abbrev pub in_range : Range → ℕ → Bool
in_range range n = leb range.least n && leb n range.most

unfoldable pub entry_in_range : Entry → Bool
entry_in_range e =
    in_range minutes_range e.minutes && in_range litres_range e.litres && in_range ratio_range e.ratio && in_range product_range e.product

unfoldable pub entries_in_range : List Entry → Bool
entries_in_range [] = true
entries_in_range (e ∷ entries) = entry_in_range e && entries_in_range entries

-- 'Numbers follow the checkpoint's groups, three at most.'
abbrev pub most_groups : ℕ
most_groups = 3

unfoldable pub entry_string : Entry → List ℕ
entry_string e = number e.minutes ++ number e.litres ++ number e.ratio ++ number e.product

unfoldable pub entries_string : List Entry → List ℕ
entries_string [] = []
entries_string (e ∷ entries) = entry_string e ++ entries_string entries

unfoldable pub volume_string : List Entry → List ℕ
volume_string entries = number (length entries) ++ entries_string entries

-- 'Entries are lent as one list, four numbers each.'
abbrev pub four_numbers : Entry → List ℕ
four_numbers e = e.minutes ∷ e.litres ∷ e.ratio ∷ e.product ∷ []

unfoldable pub numbers_of : List Entry → List ℕ
numbers_of [] = []
numbers_of (e ∷ entries) = four_numbers e ++ numbers_of entries

-- the entries of such a list; up to three numbers that are left over make none
unfoldable pub entries_of : List ℕ → List Entry
entries_of (minutes ∷ litres ∷ ratio ∷ product ∷ numbers) =
    record { minutes = minutes; litres = litres; ratio = ratio; product = product } ∷ entries_of numbers
entries_of (minutes ∷ litres ∷ ratio ∷ []) = []
entries_of (minutes ∷ litres ∷ []) = []
entries_of (minutes ∷ []) = []
entries_of [] = []
