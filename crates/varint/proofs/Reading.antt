-- What is written is read back, and what is read is exactly what would have been written. Assumes nothing.
use mathlib.Core.Path.{◌≡◌, refl, sym, ap, ◌∙◌}
use mathlib.Core.Logic.{⊎_elim}
use mathlib.Core.List.{List, [], ◌∷◌, ◌++◌}
use Prim.Native.Nat.{ℕ, zero, suc, ◌+◌, ◌-◌, ◌*◌, ◌/◌, ◌%◌, ◌^◌, ◌<◌, ◌≤◌}
use native.Mathlib.Nat.{pow-le-pow_right, one-le-pow}
use native.Mathlib.Omega.{arith}
use borrow.Author.Tests.{lt-ltb, le-ltb, le-leb, lt-leb}
use lib.ListN.{get_or}
use Rattle.laws.proofs.Lists.{below_or_not}
use Rattle.varint.specs.Number.{number, groups, Reading, is, ended, malformed, before, read_groups, read_number}
use Rattle.varint.proofs.Groups.{groups_induction, number_groups, number_last, number_more}

-- the clauses of `read_groups`, by the tests that choose them
pub read_none : (least : ℕ) (s : List ℕ) → read_groups 0 least s ≡ malformed
unfolding read_groups
read_none least s = refl

pub read_end : (k least : ℕ) → read_groups (suc k) least [] ≡ ended
unfolding read_groups
read_end k least = refl

module _ (k least b : ℕ) (s : List ℕ) where
  pub read_last : b < 128 → least ≤ b → read_groups (suc k) least (b ∷ s) ≡ is b s
  unfolding read_groups
  read_last h l = rw (lt-ltb b 128 h, le-leb least b l)

  pub read_small : b < 128 → b < least → read_groups (suc k) least (b ∷ s) ≡ malformed
  unfolding read_groups
  read_small h l = rw (lt-ltb b 128 h, lt-leb least b l)

  pub read_more : 128 ≤ b → read_groups (suc k) least (b ∷ s) ≡ before b (read_groups k 1 s)
  unfolding read_groups
  read_more h = rw (le-ltb b 128 h)

read_groups_lem : (rest : List ℕ) (k n : ℕ) → n < 128 ^ suc k
    → (least : ℕ) → least ≤ n → read_groups (suc k) least (groups (suc k) n ++ rest) ≡ is n rest
read_groups_lem rest =
    groups_induction (λ k n l. (least : ℕ) → least ≤ n → read_groups k least (l ++ rest) ≡ is n rest)
    (λ k n h least p. read_last k least n rest h p)
    (λ k n l h e least p.
    let v : n % 128 + 128 - 128 + 128 * (n / 128) ≡ n = omega arith in
    read_more k least (n % 128 + 128) (l ++ rest) (omega arith) ∙ rw (e 1 (omega arith), v))

pub read_written : (k n : ℕ) (rest : List ℕ) → 0 < k → k ≤ 10 → n < 128 ^ k → read_number k (number n ++ rest) ≡ is n rest
read_written zero n rest p h l = absurd (omega arith)
read_written (suc k) n rest p h l = rw (number_groups (suc k) n p h l) (read_groups_lem rest k n l 0 (omega arith))

pub number_unique : (k n m : ℕ) (r q : List ℕ) → 0 < k → k ≤ 10 → n < 128 ^ k → m < 128 ^ k → number n ++ r ≡ number m ++ q
    → (n ≡ m) × (r ≡ q)
number_unique k n m r q p h l i e =
    let f : is n r ≡ is m q = sym (read_written k n r p h l) ∙ ap (read_number k) e ∙ read_written k m q p h i in
    (cc, cc)

-- a string that begins with the number n, which is below 128 ^ k and not below `least`
pub record Written (k least : ℕ) (s : List ℕ) (n : ℕ) (rest : List ℕ) : Type 0 where
  pub below : n < 128 ^ k
  pub at_least : least ≤ n
  pub string : s ≡ number n ++ rest

-- what was found in a string is what was written there
abbrev FoundIn : ℕ → ℕ → List ℕ → Reading → Type 0
FoundIn k least s (is n rest) = Written k least s n rest
FoundIn k least s ended = Unit {0}
FoundIn k least s malformed = Unit {0}

found_before : (k least b : ℕ) (s : List ℕ) (f : Reading) → suc k ≤ 10 → least ≤ 1 → 128 ≤ b → b < 256
    → FoundIn k 1 s f → FoundIn (suc k) least (b ∷ s) (before b f)
found_before k least b s (is n rest) h m p q w =
    let v : ℕ = b - 128 + 128 * n in
    let quotient : v / 128 ≡ n = omega arith in
    let group : v % 128 + 128 ≡ b = omega arith in
    let l : v < 128 ^ suc k = omega arith in
    let g : 128 ^ suc k ≤ 128 ^ 10 = pow-le-pow_right (omega arith) h in
    record {
      below = l;
      at_least = omega arith;
      string = rw (number_more v (omega arith) (omega arith), quotient, group, ← w.string);
    }
found_before k least b s ended h m p q w = tt
found_before k least b s malformed h m p q w = tt

found_in : (k least : ℕ) (s : List ℕ) → k ≤ 10 → least ≤ 1 → ((i : ℕ) → get_or s i 0 < 256) → FoundIn k least s (read_groups k least s)
found_in zero least s h m bytes = rw (read_none least s) tt
found_in (suc k) least [] h m bytes = rw (read_end k least) tt
found_in (suc k) least (b ∷ s) h m bytes =
    ⊎_elim
    (λ (l : b < 128).
    ⊎_elim
    (λ (t : b < least). rw (read_small k least b s l t) tt)
    (λ (t : least ≤ b).
    rw (read_last k least b s l t)
    (record { below = omega (arith, one-le-pow k 128 (omega arith)); at_least = t; string = rw (number_last b l) }))
    (below_or_not b least))
    (λ (l : 128 ≤ b).
    rw (read_more k least b s l)
    (found_before k least b s (read_groups k 1 s) h m l (bytes 0) (found_in k 1 s (omega arith) (omega arith) (λ i. bytes (suc i)))))
    (below_or_not b 128)

pub groups_read : (k least : ℕ) (s : List ℕ) (n : ℕ) (rest : List ℕ) → k ≤ 10 → least ≤ 1 → ((i : ℕ) → get_or s i 0 < 256)
    → read_groups k least s ≡ is n rest → Written k least s n rest
groups_read k least s n rest h m bytes e = rw e at (found_in k least s h m bytes)

pub written_read : (k : ℕ) → k ≤ 10 → (s : List ℕ) (n : ℕ) (rest : List ℕ) → ((i : ℕ) → get_or s i 0 < 256)
    → read_number k s ≡ is n rest → (s ≡ number n ++ rest) × (n < 128 ^ k)
written_read k h s n rest bytes e = let w = groups_read k 0 s n rest h (omega arith) bytes e in (w.string, w.below)

-- a fourth group announces another, and the string ends there
pub fourth_announces : read_number 4 (0x80 ∷ 0x80 ∷ 0x80 ∷ 0x80 ∷ []) ≡ malformed
unfolding read_groups
fourth_announces = refl

-- the string ends before the last group
pub ends_early : read_number 4 (0x80 ∷ []) ≡ ended
unfolding read_groups
ends_early = refl

-- the last of two groups is 0
pub last_zero : read_number 4 (0x80 ∷ 0x00 ∷ []) ≡ malformed
unfolding read_groups
last_zero = refl

-- the single byte of number 0
pub single_zero : read_number 4 (0x00 ∷ []) ≡ is 0 []
unfolding read_groups
single_zero = refl
