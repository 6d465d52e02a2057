-- The cipher of a checkpoint by its first byte.
use mathlib.Core.Path.{◌≡◌, refl}
use mathlib.Core.List.{List, [], ◌∷◌}
use Prim.Native.Nat.{ℕ, ◌<◌}
use native.Mathlib.Omega.{arith}
use borrow.Author.Tests.{eq-eqb, ne_eqb}
use lib.ListN.{length, get_or}
use Rattle.cipher.specs.declared.Cipher.TheVariants.{Hc128, Hc256}
use Rattle.lab.specs.Tasks.{cipher_of}

pub none_first : (string : List ℕ) → length string ≡ 0 → Hc256 ≡ cipher_of string
unfolding cipher_of
none_first [] e = refl
none_first (b ∷ string) e = absurd (omega arith)

pub some_first : (string : List ℕ) → 0 < length string → get_or string 0 0 ≡ 1 → Hc128 ≡ cipher_of string
unfolding cipher_of
some_first [] l e = absurd (omega arith)
some_first (b ∷ string) l e = rw (eq-eqb b 1 e)

pub other_first : (string : List ℕ) → 0 < length string → (get_or string 0 0 ≡ 1 → ⊥) → Hc256 ≡ cipher_of string
unfolding cipher_of
other_first [] l e = absurd (omega arith)
other_first (b ∷ string) l e = rw (ne_eqb b 1 e)
