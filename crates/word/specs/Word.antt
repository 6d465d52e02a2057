-- Words of 32 bits, as document 01 and section 2.1 of both papers have them. A word is a natural number below 2 ^ 32.
use Rattle.std.specs.Prelude.{ℕ, ◌+◌, ◌-◌, ◌*◌, ◌/◌, ◌%◌, ◌^◌, bit_xor}

infixl 65 ◌⊞◌ ◌⊟◌
infixl 60 ◌⊕◌
-- sum and difference modulo 2^32
abbrev pub ◌⊞◌ : ℕ → ℕ → ℕ
x ⊞ y = (x + y) % 2 ^ 32

abbrev pub ◌⊟◌ : ℕ → ℕ → ℕ
x ⊟ y = (x + (2 ^ 32 - y)) % 2 ^ 32

-- exclusive or, bit by bit
abbrev pub ◌⊕◌ : ℕ → ℕ → ℕ
x ⊕ y = bit_xor x y

-- S is right shift; R and L are right and left rotation, by n bits, n from 1 to 31
abbrev pub S : ℕ → ℕ → ℕ
S n x = x / 2 ^ n

abbrev pub R : ℕ → ℕ → ℕ
R n x = (x / 2 ^ n) ⊕ (x * 2 ^ (32 - n) % 2 ^ 32)

abbrev pub L : ℕ → ℕ → ℕ
L n x = (x * 2 ^ n % 2 ^ 32) ⊕ (x / 2 ^ (32 - n))

-- the two functions of the expansion
unfoldable pub f1 : ℕ → ℕ
f1 x = R 7 x ⊕ R 18 x ⊕ S 3 x

unfoldable pub f2 : ℕ → ℕ
f2 x = R 17 x ⊕ R 19 x ⊕ S 10 x
