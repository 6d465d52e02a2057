-- Entries as one list of numbers, four each, and back. Assumes nothing.
use mathlib.Core.Path.{◌≡◌, refl, ap}
use mathlib.Core.List.{List, [], ◌∷◌}
use Prim.Native.Nat.{ℕ, zero, suc, ◌*◌}
use native.Mathlib.Omega.{arith}
use lib.ListN.{length}
use Rattle.volume.specs.declared.Entry.{Entry}
use Rattle.volume.specs.Volume.{numbers_of, entries_of}

pub numbers_length : (entries : List Entry) → length (numbers_of entries) ≡ 4 * length entries
unfolding numbers_of
numbers_length [] = refl
numbers_length (e ∷ entries) = omega (arith, numbers_length entries)

pub entries_numbers : (entries : List Entry) → entries_of (numbers_of entries) ≡ entries
unfolding numbers_of entries_of
entries_numbers [] = refl
entries_numbers (e ∷ entries) = ap (λ (l : List Entry). e ∷ l) (entries_numbers entries)

pub numbers_entries : (n : ℕ) (list : List ℕ) → length list ≡ 4 * n → numbers_of (entries_of list) ≡ list
unfolding numbers_of entries_of
numbers_entries zero [] h = refl
numbers_entries (suc n) [] h = absurd (omega arith)
numbers_entries n (a ∷ []) h = absurd (omega arith)
numbers_entries n (a ∷ b ∷ []) h = absurd (omega arith)
numbers_entries n (a ∷ b ∷ c ∷ []) h = absurd (omega arith)
numbers_entries zero (a ∷ b ∷ c ∷ d ∷ list) h = absurd (omega arith)
numbers_entries (suc n) (a ∷ b ∷ c ∷ d ∷ list) h =
    ap (λ (l : List ℕ). a ∷ b ∷ c ∷ d ∷ l) (numbers_entries n list (omega arith))

pub entries_length_lem : (n : ℕ) (list : List ℕ) → length list ≡ 4 * n → length (entries_of list) ≡ n
entries_length_lem n list h = omega (arith, numbers_length (entries_of list), ap length (numbers_entries n list h))
