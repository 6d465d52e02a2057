-- The groups of a number: each is a byte, there is at least one, and a number below 128 ^ k has at most k. Assumes nothing.
use mathlib.Core.Path.{◌≡◌, sym}
use mathlib.Core.Logic.{⊎_elim}
use mathlib.Core.List.{List, [], ◌∷◌}
use Prim.Native.Nat.{ℕ, zero, suc, ◌+◌, ◌-◌, ◌/◌, ◌%◌, ◌^◌, ◌<◌, ◌≤◌}
use native.Mathlib.Nat.{add-suc}
use native.Mathlib.Omega.{arith}
use borrow.Author.Tests.{lt-ltb, le-ltb}
use lib.ListN.{length, get_or}
use Rattle.laws.proofs.Lists.{below_or_not, cons_below}
use Rattle.varint.specs.Number.{groups, number}

groups_last : (k n : ℕ) → n < 128 → groups (suc k) n ≡ n ∷ []
unfolding groups
groups_last k n h = rw (lt-ltb n 128 h)

groups_more : (k n : ℕ) → 128 ≤ n → groups (suc k) n ≡ (n % 128 + 128) ∷ groups k (n / 128)
unfolding groups
groups_more k n h = rw (le-ltb n 128 h)

groups_cases : (P : List ℕ → Type 0) (k n : ℕ) → (n < 128 → P (n ∷ [])) → (128 ≤ n → P ((n % 128 + 128) ∷ groups k (n / 128)))
    → P (groups (suc k) n)
groups_cases P k n last more =
    ⊎_elim (λ l. rw (groups_last k n l) (last l)) (λ l. rw (groups_more k n l) (more l)) (below_or_not n 128)

-- what holds of a last group, and of a group that is followed by groups of which it holds, holds of the groups of a number below 128 ^ (k + 1)
pub groups_induction :
    (P : ℕ → ℕ → List ℕ → Type 0)
    → ((k n : ℕ) → n < 128 → P (suc k) n (n ∷ []))
    → ((k n : ℕ) (l : List ℕ) → 128 ≤ n → P k (n / 128) l → P (suc k) n ((n % 128 + 128) ∷ l))
    → (k n : ℕ) → n < 128 ^ suc k → P (suc k) n (groups (suc k) n)
groups_induction P last more zero n h = groups_cases (P 1 n) 0 n (last 0 n) (λ l. absurd (omega arith))
groups_induction P last more (suc k) n h =
    groups_cases (P (suc (suc k)) n) (suc k) n
    (last (suc k) n)
    (λ l. more (suc k) n _ l (groups_induction P last more k (n / 128) (omega arith)))

-- more groups than a number needs change nothing
pub groups_same : (k j n : ℕ) → n < 128 ^ suc k → groups (suc k) n ≡ groups (j + suc k) n
groups_same k j =
    groups_induction (λ k n l. l ≡ groups (j + k) n)
    (λ k n h. rw (add-suc j k) (sym (groups_last (j + k) n h)))
    (λ k n l h e. rw (add-suc j k, e) (sym (groups_more (j + k) n h)))
    k

pub number_groups : (k n : ℕ) → 0 < k → k ≤ 10 → n < 128 ^ k → number n ≡ groups k n
unfolding number
number_groups zero n p h l = absurd (omega arith)
number_groups (suc k) n p h l = let e : 10 ≡ 9 - k + suc k = omega arith in rw e (sym (groups_same k (9 - k) n l))

-- group by group until the quotient is 0
pub number_last : (n : ℕ) → n < 128 → number n ≡ n ∷ []
unfolding number
number_last n h = groups_last 9 n h

pub number_more : (n : ℕ) → 128 ≤ n → n < 128 ^ 10 → number n ≡ (n % 128 + 128) ∷ number (n / 128)
unfolding number
number_more n h l = rw (groups_more 9 n h, ← number_groups 9 (n / 128) (omega arith) (omega arith) (omega arith))

groups_length : (k n : ℕ) → length (groups k n) ≤ k
unfolding groups
groups_length zero n = omega arith
groups_length (suc k) n =
    groups_cases (λ l. length l ≤ suc k) k n (λ l. omega arith) (λ l. let h = groups_length k (n / 128) in omega arith)

pub number_length : (k n : ℕ) → 0 < k → k ≤ 10 → n < 128 ^ k → length (number n) ≤ k
number_length k n p h l = rw (number_groups k n p h l) (groups_length k n)

pub number_some : (n : ℕ) → 1 ≤ length (number n)
unfolding number
number_some n = groups_cases (λ l. 1 ≤ length l) 9 n (λ l. omega arith) (λ l. omega arith)

-- how many groups a number of at least 128 has
pub number_count : (k n : ℕ) → n < 128 ^ 10 → 128 ^ suc k ≤ n → n < 128 ^ suc (suc k) → length (number n) ≡ suc (suc k)
number_count zero n h l m = rw (number_more n l (omega arith), number_last (n / 128) (omega arith))
number_count (suc k) n h l m =
    rw (number_more n (omega arith) (omega arith), number_count k (n / 128) (omega arith) (omega arith) (omega arith))

groups_bytes : (k n i : ℕ) → get_or (groups k n) i 0 < 256
unfolding groups
groups_bytes zero n = λ i. omega arith
groups_bytes (suc k) n =
    groups_cases (λ l. (i : ℕ) → get_or l i 0 < 256) k n
    (λ l. cons_below [] (omega arith) (λ i. omega arith))
    (λ l. cons_below (groups k (n / 128)) (omega arith) (groups_bytes k (n / 128)))

pub number_bytes : (n i : ℕ) → get_or (number n) i 0 < 256
unfolding number
number_bytes n = groups_bytes 10 n
