-- The twelve starred examples of document 01: what each computes, and what the document gives.
use Rattle.std.specs.Prelude.{◌≡◌, List, [], ◌∷◌, map, ℕ, get_or, replicate}
use Rattle.word.specs.Word.{f1, f2, R, L}
use Rattle.varint.specs.Number.{number}
use Rattle.cipher.specs.declared.Cipher.TheVariants.{Hc128}
use Rattle.functions.specs.Functions.{g128, h128, h256}
use Rattle.schedule.specs.Expansion.{expansion}
use Rattle.keys.specs.Key.{sixteen}
use Rattle.steps.specs.Steps.{steps_at}
use Rattle.conditions.specs.Limit.{limit}

-- what stands under one star: numbers, or strings of bytes
pub record Example : Type 0 where
  pub computed : List (List ℕ)
  pub given : List (List ℕ)

abbrev pub is : ℕ → ℕ → Example
is x y = record { computed = (x ∷ []) ∷ []; given = (y ∷ []) ∷ [] }

abbrev pub are : List ℕ → List ℕ → Example
are xs ys = record { computed = xs ∷ []; given = ys ∷ [] }

abbrev pub strings : List (List ℕ) → List (List ℕ) → Example
strings xs ys = record { computed = xs; given = ys }

-- the expansion of a zero key and IV, up to W18
unfoldable pub zero_expansion : List ℕ
zero_expansion = expansion (sixteen Hc128 (replicate 16 0) (replicate 16 0)) 3

unfoldable pub examples : List Example
examples =
    is (f1 1) 0x02004000
    ∷ is (f2 1) 0xA000
    ∷ is (f1 0xFFFFFFFF) 0x1FFFFFFF
    ∷ is (f2 0xFFFFFFFF) 0x003FFFFF
    ∷ is (g128 R 1 1 1) 0x01400200
    ∷ is (g128 L 1 1 1) 0x00800500
    ∷ are (get_or zero_expansion 16 0 ∷ get_or zero_expansion 17 0 ∷ get_or zero_expansion 18 0 ∷ []) (16 ∷ 17 ∷ 0xA0012 ∷ [])
    ∷ is (h128 (λ k. k) 0x00020003) 261
    ∷ is (h256 (λ k. k) 0x00020003) 1541
    ∷ are (map steps_at (0 ∷ 1 ∷ 4 ∷ 5 ∷ [])) (0 ∷ 1 ∷ 1 ∷ 2 ∷ [])
    ∷ strings (map number (300 ∷ 16383 ∷ 16384 ∷ [])) ((0xAC ∷ 0x02 ∷ []) ∷ (0xFF ∷ 0x7F ∷ []) ∷ (0x80 ∷ 0x80 ∷ 0x01 ∷ []) ∷ [])
    ∷ are (number limit) (0x80 ∷ 0x80 ∷ 0x80 ∷ 0x20 ∷ [])
    ∷ []

-- each computes what is given
abbrev pub Holds : List Example → Type 0
Holds [] = Unit {0}
Holds (e ∷ l) = (e.computed ≡ e.given) × Holds l

unfoldable pub Starred : Type 0
Starred = Holds examples
