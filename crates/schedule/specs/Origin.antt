-- The expansion undone: from the words of an area back to W0..15.
use Rattle.std.specs.Prelude.{Bool, ◌&&◌, cond, Result, Ok, Err, List, ◌∷◌, ℕ, zero, suc, ◌+◌, ◌/◌, get_or, take}
use Rattle.laws.specs.Same.{same}
use Rattle.word.specs.Word.{f1, f2, ◌⊞◌, ◌⊟◌}
use Rattle.cipher.specs.declared.Cipher.{Cipher}
use Rattle.cipher.specs.Numbers.{table_length}
use Rattle.schedule.specs.Expansion.{filled}
use Rattle.keys.specs.Key.{doubled}

-- Wn, from the list l of the words after it: W(n+16) less what the expansion added to Wn
unfoldable pub previous_word : List ℕ → ℕ → ℕ
previous_word l n = get_or l 15 0 ⊟ (f2 (get_or l 13 0) ⊞ get_or l 8 0 ⊞ f1 (get_or l 0 0) ⊞ (16 + n))

-- the words from Wn on, which are l, continued down to W0
unfoldable pub unexpansion : List ℕ → ℕ → List ℕ
unexpansion l zero = l
unexpansion l (suc n) = unexpansion (previous_word l n ∷ l) n

-- the sixteen words that an area leads back to
unfoldable pub origin : Cipher → List ℕ → List ℕ
origin c s = take 16 (unexpansion s (table_length c / 2))

-- whether ALL of the area is the expansion of these sixteen words, and the words that have to stand twice do
unfoldable pub is_filled : Cipher → List ℕ → Bool
is_filled c s = same s (filled c (origin c s)) && doubled c (origin c s)

-- the sixteen words: `Ok` where they are those of a key and an IV that fill the area, else `Err`
abbrev pub if_filled : Cipher → List ℕ → Result (List ℕ) (List ℕ)
if_filled c s = cond (is_filled c s) (Ok (origin c s)) (Err (origin c s))
