-- The unexpansion undoes the expansion, and its result follows the rule of Wi; so an area is filled by the words that it leads back to if and only if
-- its own words follow the rule. Assumes nothing.
use mathlib.Core.Path.{◌≡◌, refl, sym, ap, ◌∙◌}
use mathlib.Core.List.{List, ◌∷◌}
use mathlib.Core.Logic.{⊎_elim}
use Prim.Native.Nat.{ℕ, zero, suc, ◌+◌, ◌-◌, ◌/◌, ◌^◌, ◌≤◌, ◌<◌}
use native.Mathlib.Nat.{eq-or-lt_of_le, add-zero}
use native.Mathlib.Omega.{arith}
use lib.ListN.{length, get_or, drop}
use lib.Seq.{drop-cons, drop-drop, get_or-drop, length-take-le}
use Rattle.laws.proofs.Lists.{cons_below, take_below, below_or_not}
use Rattle.word.specs.Word.{f1, f2, ◌⊞◌, ◌⊟◌}
use Rattle.word.specs.Bytes.{AllWords}
use Rattle.cipher.specs.declared.Cipher.{Cipher}
use Rattle.cipher.specs.Numbers.{table_length, area_length, expansion_length}
use Rattle.schedule.specs.Expansion.{next_word, expansion, filled}
use Rattle.schedule.specs.Origin.{previous_word, unexpansion, origin}
use Rattle.schedule.proofs.Expansion.{sizes, Follows, expansion_length_lem, expansion_words, expansion_follows, expansion_take, follows_expansion}

-- ---- one word: Wn, of which W(n+16) is made

subtract_parts : (a b c x i : ℕ) → x < 2 ^ 32 → a ⊞ b ⊞ c ⊞ x ⊞ i ⊟ (a ⊞ b ⊞ c ⊞ i) ≡ x
subtract_parts a b c x i l = omega arith

add_parts : (a b c x i : ℕ) → x < 2 ^ 32 → a ⊞ b ⊞ c ⊞ (x ⊟ (a ⊞ b ⊞ c ⊞ i)) ⊞ i ≡ x
add_parts a b c x i l = omega arith

module _ (W : List ℕ) (n : ℕ) where
  next_at_lem : next_word W (16 + n) ≡ f2 (get_or W (14 + n) 0) ⊞ get_or W (9 + n) 0 ⊞ f1 (get_or W (1 + n) 0) ⊞ get_or W n 0 ⊞ (16 + n)
  unfolding next_word
  next_at_lem =
      let p : 16 + n - 2 ≡ 14 + n = omega arith in
      let q : 16 + n - 7 ≡ 9 + n = omega arith in
      let r : 16 + n - 15 ≡ 1 + n = omega arith in
      let s : 16 + n - 16 ≡ n = omega arith in
      rw (p, q, r, s)

  previous_at : previous_word (drop (suc n) W) n
      ≡ get_or W (16 + n) 0 ⊟ (f2 (get_or W (14 + n) 0) ⊞ get_or W (9 + n) 0 ⊞ f1 (get_or W (1 + n) 0) ⊞ (16 + n))
  unfolding previous_word
  previous_at =
      let at : (k j : ℕ) → suc n + k ≡ j → get_or (drop (suc n) W) k 0 ≡ get_or W j 0 = λ k j e. rw (← e) (get_or-drop (suc n) W k 0) in
      rw (
        at 15 (16 + n) (omega arith),
        at 13 (14 + n) (omega arith),
        at 8 (9 + n) (omega arith),
        at 0 (1 + n) (omega arith),
      )

  pub previous_next : get_or W n 0 < 2 ^ 32 → get_or W (16 + n) 0 ≡ next_word W (16 + n) → previous_word (drop (suc n) W) n ≡ get_or W n 0
  previous_next l e = rw (previous_at, e, next_at_lem) (subtract_parts _ _ _ _ (16 + n) l)

  pub next_previous : get_or W (16 + n) 0 < 2 ^ 32 → previous_word (drop (suc n) W) n ≡ get_or W n 0 → get_or W (16 + n) 0 ≡ next_word W (16 + n)
  next_previous l e = rw (next_at_lem, ← e, previous_at) (sym (add_parts _ _ _ _ (16 + n) l))

-- ---- all words

-- the words from Wn on lead back to W0
pub unexpansion_follows : (W : List ℕ) (m n : ℕ) → Follows W m → AllWords W → n ≤ m → n ≤ length W → unexpansion (drop n W) n ≡ W
unfolding unexpansion
unexpansion_follows W m zero follows ok l k = refl
unexpansion_follows W m (suc n) follows ok l k =
    rw (previous_next W n (ok n) (follows n (omega arith)), ← drop-cons W n 0 (omega arith))
    (unexpansion_follows W m n follows ok (omega arith) (omega arith))

previous_below : (l : List ℕ) (n : ℕ) → previous_word l n < 2 ^ 32
unfolding previous_word
previous_below l n = omega arith

pub unexpansion_words : (l : List ℕ) (n : ℕ) → AllWords l → AllWords (unexpansion l n)
unfolding unexpansion
unexpansion_words l zero ok = ok
unexpansion_words l (suc n) ok = unexpansion_words (previous_word l n ∷ l) n (cons_below l (previous_below l n) ok)

pub unexpansion_length : (l : List ℕ) (n : ℕ) → length (unexpansion l n) ≡ n + length l
unfolding unexpansion
unexpansion_length l zero = omega arith
unexpansion_length l (suc n) = unexpansion_length (previous_word l n ∷ l) n ∙ omega arith

pub unexpansion_drop : (l : List ℕ) (n : ℕ) → drop n (unexpansion l n) ≡ l
unfolding unexpansion
unexpansion_drop l zero = refl
unexpansion_drop l (suc n) =
    let e : suc n ≡ n + 1 = omega arith in
    rw (e, ← drop-drop 1 n (unexpansion (previous_word l n ∷ l) n), unexpansion_drop (previous_word l n ∷ l) n)

pub unexpansion_at : (l : List ℕ) (n k : ℕ) → get_or (unexpansion l n) (n + k) 0 ≡ get_or l k 0
unexpansion_at l n k = sym (get_or-drop n (unexpansion l n) k 0) ∙ ap (λ (z : List ℕ). get_or z k 0) (unexpansion_drop l n)

-- Wi before the first word of l is the word that W(i+16) was made of
pub unexpansion_previous : (l : List ℕ) (n i : ℕ) → i < n → previous_word (drop (suc i) (unexpansion l n)) i ≡ get_or (unexpansion l n) i 0
unfolding unexpansion
unexpansion_previous l zero i b = absurd (omega arith)
unexpansion_previous l (suc n) i b =
    let U = unexpansion (previous_word l n ∷ l) n in
    let first : get_or U n 0 ≡ previous_word l n =
    sym (rw add-zero at (get_or-drop n U 0 0)) ∙ ap (λ (z : List ℕ). get_or z 0 0) (unexpansion_drop (previous_word l n ∷ l) n) in
    ⊎_elim (λ e. rw e (ap (λ (z : List ℕ). previous_word z n) (unexpansion_drop l (suc n)) ∙ sym first))
    (λ h. unexpansion_previous (previous_word l n ∷ l) n i h)
    (eq-or-lt_of_le (omega arith))

-- the rule of Wi at W(n+k), from the words of l alone
pub next_from : (l : List ℕ) (n k : ℕ) → 16 ≤ k
    → next_word (unexpansion l n) (n + k) ≡ f2 (get_or l (k - 2) 0) ⊞ get_or l (k - 7) 0 ⊞ f1 (get_or l (k - 15) 0) ⊞ get_or l (k - 16) 0 ⊞ (n + k)
unfolding next_word
next_from l n k h =
    let at : (d : ℕ) → d ≤ 16 → get_or (unexpansion l n) (n + k - d) 0 ≡ get_or l (k - d) 0 = λ d b.
    let e : n + k - d ≡ n + (k - d) = omega arith in
    rw e (unexpansion_at l n (k - d)) in
    rw (at 2 (omega arith), at 7 (omega arith), at 15 (omega arith), at 16 (omega arith))

-- ---- an area

module _ (c : Cipher) (w : List ℕ) (sixteen : length w ≡ 16) (ok : AllWords w) where
  -- the area that W0..15 fill leads back to their expansion, which starts with them
  pub unexpansion_filled : unexpansion (filled c w) (table_length c / 2) ≡ expansion w (expansion_length c - 16)
  unfolding filled
  unexpansion_filled =
      let z = sizes c in
      let n = expansion_length_lem w sixteen (expansion_length c - 16) in
      unexpansion_follows (expansion w (expansion_length c - 16)) (expansion_length c - 16) (table_length c / 2)
      (expansion_follows w sixteen (expansion_length c - 16))
      (expansion_words w sixteen ok (expansion_length c - 16))
      (omega arith) (omega arith)

  pub origin_filled : origin c (filled c w) ≡ w
  unfolding origin
  origin_filled = rw unexpansion_filled (expansion_take w sixteen (expansion_length c - 16))

module _ (c : Cipher) (s : List ℕ) (long : length s ≡ area_length c) (ok : AllWords s) where
  -- T/2
  abbrev half : ℕ
  half = table_length c / 2

  pub origin_length : length (origin c s) ≡ 16
  unfolding origin
  origin_length = let z = sizes c in length-take-le 16 (unexpansion s half) (rw (unexpansion_length s half) (omega arith))

  pub origin_words : AllWords (origin c s)
  unfolding origin
  origin_words = take_below 16 (unexpansion s half) (unexpansion_words s half ok)

  -- an area whose words follow the rule of Wi is filled by the words that it leads back to, and another is not
  pub follows_filled : ((k : ℕ) → k < length s → 16 ≤ k → get_or s k 0 ≡ next_word (unexpansion s half) (half + k)) → s ≡ filled c (origin c s)
  unfolding filled origin
  follows_filled h =
      let z = sizes c in
      let U = unexpansion s half in
      let n = unexpansion_length s half in
      let later : (i : ℕ) → half ≤ i → i < expansion_length c - 16 → get_or U (16 + i) 0 ≡ next_word U (16 + i) = λ i lo hi.
      let e : 16 + i ≡ half + (16 + i - half) = omega arith in
      rw e (unexpansion_at s half (16 + i - half) ∙ h (16 + i - half) (omega arith) (omega arith)) in
      let follows : Follows U (expansion_length c - 16) = λ i l.
      ⊎_elim (λ b. next_previous U i (unexpansion_words s half ok (16 + i)) (unexpansion_previous s half i b))
      (λ b. later i b l)
      (below_or_not i half) in
      sym (unexpansion_drop s half) ∙ ap (drop half) (follows_expansion U (expansion_length c - 16) (omega arith) follows)

  pub filled_follows : s ≡ filled c (origin c s) → (k : ℕ) → k < length s → 16 ≤ k → get_or s k 0 ≡ next_word (unexpansion s half) (half + k)
  filled_follows e k hi lo =
      let z = sizes c in
      let U = unexpansion s half in
      let same : U ≡ expansion (origin c s) (expansion_length c - 16) =
      ap (λ (l : List ℕ). unexpansion l half) e ∙ unexpansion_filled c (origin c s) origin_length origin_words in
      let i : 16 + (half + k - 16) ≡ half + k = omega arith in
      sym (unexpansion_at s half k)
      ∙ (rw (← same, i) at (expansion_follows (origin c s) origin_length (expansion_length c - 16) (half + k - 16) (omega arith)))
