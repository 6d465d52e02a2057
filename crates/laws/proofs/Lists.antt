-- Lists filled and read element by element, and small numbers case by case. Assumes nothing.
use mathlib.Core.Path.{◌≡◌, sym, ◌∙◌}
use mathlib.Core.Logic.{◌⊎◌, inl, inr, ⊎_elim}
use mathlib.Core.List.{List, [], ◌∷◌, ◌++◌}
use Prim.Native.Nat.{ℕ, zero, suc, ◌+◌, ◌≤◌, ◌<◌}
use native.Mathlib.Omega.{arith}
use borrow.Author.Count.{below_more}
use lib.ListN.{length, get_or, set, take, drop, length-drop}
use lib.Seq.{get_or-set_same, get_or-set_other, length-take-le, get_or-take, get_or-drop, ext_get_or}

-- a list filled from the front by a function of the index, one element more
pub filled_more : (f : ℕ → ℕ) (a : List ℕ) (j x : ℕ) → j < length a → x ≡ f j
    → ((k : ℕ) → k < j → get_or a k 0 ≡ f k) → (k : ℕ) → k < j + 1 → get_or (set a j x) k 0 ≡ f k
filled_more f a j x l e h =
    below_more (λ k. get_or (set a j x) k 0 ≡ f k) j
    (λ k b. get_or-set_other a j k x 0 (λ q. omega arith) ∙ h k b)
    (get_or-set_same a j x 0 l ∙ e)

-- n elements of a list from place a on: their number, each of them, and when they are those of a list from place b on
pub part_length : (n a : ℕ) (l : List ℕ) → a + n ≤ length l → length (take n (drop a l)) ≡ n
part_length n a l h = length-take-le n (drop a l) (rw length-drop (omega arith))

pub part_at : (n a : ℕ) (l : List ℕ) (k : ℕ) → k < n → get_or (take n (drop a l)) k 0 ≡ get_or l (a + k) 0
part_at n a l k h = get_or-take n (drop a l) k 0 h ∙ get_or-drop a l k 0

-- a bound on every element survives a store of an element within it
pub set_below : {m : ℕ} (s : List ℕ) (p : ℕ) {v : ℕ} (k : ℕ) → v < m → get_or s k 0 < m → get_or (set s p v) k 0 < m
set_below [] p k l h = h
set_below (a ∷ s) zero zero l h = l
set_below (a ∷ s) zero (suc k) l h = h
set_below (a ∷ s) (suc p) zero l h = h
set_below (a ∷ s) (suc p) (suc k) l h = set_below s p k l h

-- and a list made longer or shorter
module _ {m : ℕ} where
  pub cons_below : {a : ℕ} (s : List ℕ) → a < m → ((k : ℕ) → get_or s k 0 < m) → (k : ℕ) → get_or (a ∷ s) k 0 < m
  cons_below s l p zero = l
  cons_below s l p (suc k) = p k

  pub append_below : (s t : List ℕ) → ((k : ℕ) → get_or s k 0 < m) → ((k : ℕ) → get_or t k 0 < m) → (k : ℕ) → get_or (s ++ t) k 0 < m
  append_below [] t p q k = q k
  append_below (a ∷ s) t p q zero = p 0
  append_below (a ∷ s) t p q (suc k) = append_below s t (λ j. p (suc j)) q k

  pub take_below : (n : ℕ) (s : List ℕ) → ((k : ℕ) → get_or s k 0 < m) → (k : ℕ) → get_or (take n s) k 0 < m
  take_below zero s p k = let h = p 0 in omega arith
  take_below (suc n) [] p k = p k
  take_below (suc n) (a ∷ s) p zero = p 0
  take_below (suc n) (a ∷ s) p (suc k) = take_below n s (λ j. p (suc j)) k

  pub drop_below : (n : ℕ) (s : List ℕ) → ((k : ℕ) → get_or s k 0 < m) → (k : ℕ) → get_or (drop n s) k 0 < m
  drop_below n s p k = rw get_or-drop (p (n + k))

pub below_or_not : (k n : ℕ) → (k < n) ⊎ (n ≤ k)
below_or_not k zero = inr (omega arith)
below_or_not zero (suc n) = inl (omega arith)
below_or_not (suc k) (suc n) = ⊎_elim (λ l. inl (omega arith)) (λ l. inr (omega arith)) (below_or_not k n)

pub four_cases : (P : ℕ → Type 0) → P 0 → P 1 → P 2 → P 3 → (k : ℕ) → k < 4 → P k
four_cases P a b c d zero l = a
four_cases P a b c d (suc zero) l = b
four_cases P a b c d (suc (suc zero)) l = c
four_cases P a b c d (suc (suc (suc zero))) l = d
four_cases P a b c d (suc (suc (suc (suc k)))) l = absurd (omega arith)

pub eight_cases : (P : ℕ → Type 0) → P 0 → P 1 → P 2 → P 3 → P 4 → P 5 → P 6 → P 7 → (k : ℕ) → k < 8 → P k
eight_cases P a b c d e f g h zero l = a
eight_cases P a b c d e f g h (suc zero) l = b
eight_cases P a b c d e f g h (suc (suc zero)) l = c
eight_cases P a b c d e f g h (suc (suc (suc zero))) l = d
eight_cases P a b c d e f g h (suc (suc (suc (suc k)))) l =
    four_cases (λ j. P (suc (suc (suc (suc j))))) e f g h k (omega arith)
