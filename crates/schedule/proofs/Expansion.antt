-- The expansion of W0..15 is the one list that starts with them and follows the rule of Wi from W16 on; its length and its words, and those of the
-- area that it fills. Assumes nothing.
use mathlib.Core.Path.{◌≡◌, refl, sym, ◌∙◌}
use mathlib.Core.List.{List, []}
use mathlib.Core.Logic.{⊎_elim}
use Prim.Native.Nat.{ℕ, zero, suc, ◌+◌, ◌-◌, ◌*◌, ◌/◌, ◌%◌, ◌^◌, ◌≤◌, ◌<◌}
use native.Mathlib.Nat.{eq-or-lt_of_le}
use native.Mathlib.Omega.{arith}
use lib.ListN.{length, get_or, take, length-append, length-drop, get_or-append}
use lib.Seq.{get_or_at, get_or-take, take-suc, take_all, length-take-le, ext_get_or}
use Rattle.laws.proofs.Lists.{append_below, cons_below, drop_below}
use Rattle.word.specs.Bytes.{AllWords}
use Rattle.cipher.specs.declared.Cipher.{Cipher}
use Rattle.cipher.specs.declared.Cipher.TheVariants.{Hc128, Hc256}
use Rattle.cipher.specs.Numbers.{table_length, area_length, expansion_length}
use Rattle.schedule.specs.Expansion.{next_word, expansion, filled}

-- half a table is a multiple of sixteen words, two at least; an area is four of them, and the expansion five
pub sizes : (c : Cipher)
    → (32 ≤ table_length c / 2) × (table_length c / 2 % 16 ≡ 0) × (table_length c / 2 + area_length c ≡ expansion_length c) × (expansion_length c ≤ 4096)
    × (table_length c / 2 ≤ 512) × (table_length c / 2 % 4 ≡ 0) × (area_length c ≡ 4 * (table_length c / 2)) × (expansion_length c ≡ 5 * (table_length c / 2))
sizes Hc128 = omega arith
sizes Hc256 = omega arith

-- W16 to W(15+n) are as the rule of Wi makes them
abbrev pub Follows : List ℕ → ℕ → Type 0
Follows W n = (i : ℕ) → i < n → get_or W (16 + i) 0 ≡ next_word W (16 + i)

next_below : (W : List ℕ) (i : ℕ) → next_word W i < 2 ^ 32
unfolding next_word
next_below W i = omega arith

-- Wi is made of words before it
next_same : (U W : List ℕ) (i : ℕ) → ((k : ℕ) → k < 16 + i → get_or U k 0 ≡ get_or W k 0) → next_word U (16 + i) ≡ next_word W (16 + i)
unfolding next_word
next_same U W i h =
    rw (
      h (16 + i - 2) (omega arith),
      h (16 + i - 7) (omega arith),
      h (16 + i - 15) (omega arith),
      h (16 + i - 16) (omega arith),
    )

module _ (w : List ℕ) (sixteen : length w ≡ 16) where
  pub expansion_length_lem : (n : ℕ) → length (expansion w n) ≡ 16 + n
  unfolding expansion
  expansion_length_lem zero = sixteen
  expansion_length_lem (suc n) = rw (length-append, expansion_length_lem n) (omega arith)

  pub expansion_words : AllWords w → (n : ℕ) → AllWords (expansion w n)
  unfolding expansion
  expansion_words ok zero = ok
  expansion_words ok (suc n) =
      append_below (expansion w n) _ (expansion_words ok n) (cons_below [] (next_below (expansion w n) (16 + n)) (λ k. omega arith))

  expansion_earlier : (n k : ℕ) → k < 16 + n → get_or (expansion w (suc n)) k 0 ≡ get_or (expansion w n) k 0
  unfolding expansion
  expansion_earlier n k l = get_or-append (expansion w n) _ 0 k (rw expansion_length_lem l)

  expansion_last : (n : ℕ) → get_or (expansion w (suc n)) (16 + n) 0 ≡ next_word (expansion w n) (16 + n)
  unfolding expansion
  expansion_last n = get_or_at (expansion w n) _ [] 0 (16 + n) (expansion_length_lem n)

  pub expansion_follows : (n : ℕ) → Follows (expansion w n) n
  expansion_follows zero i l = absurd (omega arith)
  expansion_follows (suc n) i l =
      ⊎_elim
      (λ e. rw e (expansion_last n ∙ next_same (expansion w n) (expansion w (suc n)) n (λ k b. sym (expansion_earlier n k b))))
      (λ b.
      expansion_earlier n (16 + i) (omega arith)
      ∙ expansion_follows n i b
      ∙ next_same (expansion w n) (expansion w (suc n)) i (λ k h. sym (expansion_earlier n k (omega arith))))
      (eq-or-lt_of_le (omega arith))

  -- W0..15 stay the first
  pub expansion_first : (n k : ℕ) → k < 16 → get_or (expansion w n) k 0 ≡ get_or w k 0
  unfolding expansion
  expansion_first zero k l = refl
  expansion_first (suc n) k l = expansion_earlier n k (omega arith) ∙ expansion_first n k l

  pub expansion_take : (n : ℕ) → take 16 (expansion w n) ≡ w
  expansion_take n =
      let l = length-take-le 16 (expansion w n) (let h = expansion_length_lem n in omega arith) in
      ext_get_or 0 (take 16 (expansion w n)) w (l ∙ sym sixteen)
      (λ k b. let h : k < 16 = omega arith in get_or-take 16 (expansion w n) k 0 h ∙ expansion_first n k h)

module _ (W : List ℕ) (n : ℕ) (long : length W ≡ 16 + n) (follows : Follows W n) where
  first_words : (m : ℕ) → m ≤ n → take (16 + m) W ≡ expansion (take 16 W) m
  unfolding expansion
  first_words zero l = refl
  first_words (suc m) l =
      let e : 16 + suc m ≡ suc (16 + m) = omega arith in
      rw (
        e,
        take-suc W (16 + m) 0 (omega arith),
        follows m (omega arith),
        next_same W (take (16 + m) W) m (λ k b. sym (get_or-take (16 + m) W k 0 b)),
        first_words m (omega arith),
      )

  -- what follows the rule is the expansion of its first sixteen words
  pub follows_expansion : W ≡ expansion (take 16 W) n
  follows_expansion = sym (take_all (16 + n) W (omega arith)) ∙ first_words n (omega arith)

module _ (c : Cipher) (w : List ℕ) (sixteen : length w ≡ 16) where
  pub filled_length : length (filled c w) ≡ area_length c
  unfolding filled
  filled_length = let z = sizes c in rw (length-drop, expansion_length_lem w sixteen) (omega arith)

  pub filled_words : AllWords w → AllWords (filled c w)
  unfolding filled
  filled_words ok = drop_below (table_length c / 2) _ (expansion_words w sixteen ok (expansion_length c - 16))
