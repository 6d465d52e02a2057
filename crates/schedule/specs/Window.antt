-- How the code goes on and back with sixteen words. Only the contracts of this crate's own steps cite it.
use Rattle.std.specs.Prelude.{◌≡◌, List, ℕ, ◌+◌, ◌-◌, ◌*◌, ◌/◌, ◌%◌, ◌≤◌, ◌<◌, length, get_or, set}
use Rattle.cipher.specs.declared.Cipher.{Cipher}
use Rattle.cipher.specs.Numbers.{table_length, area_length, expansion_length}
use Rattle.word.specs.Word.{f1, f2, ◌⊞◌, ◌⊟◌}

-- r is T/2, which is a number of fours; an area has four times as many words, and the expansion five times
abbrev pub IsHalf : Cipher → ℕ → Type 0
IsHalf c r = (r ≡ table_length c / 2) × (32 ≤ r) × (r ≤ 512) × (r % 4 ≡ 0) × (area_length c ≡ 4 * r) × (expansion_length c ≡ 5 * r)

-- W(n+k), made of words before it, where the first word of l is Wn and w2 is W(n+k-2)
abbrev pub next_at : List ℕ → ℕ → ℕ → ℕ → ℕ
next_at l k w2 n = f2 w2 ⊞ get_or l (k - 7) 0 ⊞ f1 (get_or l (k - 15) 0) ⊞ get_or l (k - 16) 0 ⊞ (n + k)

-- each word of l from the seventeenth on is made of those before it, where the first word is Wn
abbrev pub Run : ℕ → List ℕ → Type 0
Run n l = (k : ℕ) → 16 ≤ k → k < length l → get_or l k 0 ≡ next_at l k (get_or l (k - 2) 0) n

-- W(i-16) back in the place of Wi, in a window that holds Wi at place i mod 16
unfoldable pub previous : List ℕ → ℕ → List ℕ
previous v i =
    set v (i % 16)
    (get_or v (i % 16) 0 ⊟ (f2 (get_or v ((i + 14) % 16) 0) ⊞ get_or v ((i + 9) % 16) 0 ⊞ f1 (get_or v ((i + 1) % 16) 0) ⊞ i))
