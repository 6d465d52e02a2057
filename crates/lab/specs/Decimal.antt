-- Numbers in decimal, as a text on the command line.
use Rattle.std.specs.Prelude.{Bool, false, cond, Option, Some, None, List, [], ◌∷◌, ℕ, ◌+◌, ◌-◌, ◌*◌, leb, ltb}

-- the bytes 48 to 57 are the digits '0' to '9'
abbrev pub is_digit : ℕ → Bool
is_digit b = cond (leb 48 b) (leb b 57) false

-- the number that digits spell after the number n; none where a byte is no digit
unfoldable pub digits : ℕ → List ℕ → Option ℕ
digits n [] = Some n
digits n (b ∷ text) = cond (is_digit b) (digits (10 * n + (b - 48)) text) None

-- a number of 64 bits
abbrev pub fits : Option ℕ → Option ℕ
fits None = None
fits (Some n) = cond (ltb n 18446744073709551616) (Some n) None

-- the number that a text spells: one digit or more, and below 2^64
unfoldable pub decimal : List ℕ → Option ℕ
decimal [] = None
decimal (b ∷ text) = fits (digits 0 (b ∷ text))
