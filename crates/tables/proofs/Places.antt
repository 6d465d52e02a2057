-- Where a step reads and writes: A[j] stands at i mod 2T, and what a step reads besides A[j] is not A[j].
use mathlib.Core.Path.{◌≡◌}
use mathlib.Core.Logic.{◌≢◌, ⊎_elim}
use mathlib.Core.Bool.{Bool, true, false}
use mathlib.Core.List.{List}
use Prim.Native.Nat.{ℕ, ◌+◌, ◌%◌, ◌≤◌, ◌<◌}
use native.Mathlib.Omega.{arith}
use borrow.Author.Tests.{lt-ltb, le-ltb}
use lib.ListN.{set}
use lib.Seq.{get_or-set_other}
use Rattle.laws.proofs.Lists.{below_or_not}
use Rattle.cipher.specs.declared.Cipher.{Cipher}
use Rattle.cipher.specs.declared.Cipher.TheVariants.{Hc128, Hc256}
use Rattle.cipher.specs.Numbers.{table_length, area_length}
use Rattle.functions.specs.Functions.{start_b}
use Rattle.tables.specs.Area.{changes_p, start_a}
use Rattle.tables.specs.Step.{A, B, place}

pub table_size : (c : Cipher) → (12 ≤ table_length c) × (table_length c ≤ 1024)
table_size Hc128 = omega arith
table_size Hc256 = omega arith

pub place_is : (c : Cipher) (i : ℕ) → place c i ≡ i % area_length c
place_is Hc128 i = ⊎_elim (λ l. rw (lt-ltb (i % 1024) 512 l) (omega arith)) (λ l. rw (le-ltb (i % 1024) 512 l) (omega arith)) (below_or_not (i % 1024) 512)
place_is Hc256 i = ⊎_elim (λ l. rw (lt-ltb (i % 2048) 1024 l) (omega arith)) (λ l. rw (le-ltb (i % 2048) 1024 l) (omega arith)) (below_or_not (i % 2048) 1024)

pub place_lt : (c : Cipher) (i : ℕ) → place c i < area_length c
place_lt Hc128 i = rw (place_is Hc128 i) (omega arith)
place_lt Hc256 i = rw (place_is Hc256 i) (omega arith)

-- another element of A
own_apart : (c : Cipher) (i m : ℕ) → 0 < m → m < table_length c
    → start_a (table_length c) (changes_p (table_length c) i) + (i % table_length c + m) % table_length c ≢ place c i
own_apart Hc128 i m p l e = omega arith
own_apart Hc256 i m p l e = omega arith

-- an element of B
other_apart : (T : ℕ) (b : Bool) (j k : ℕ) → j < T → k < T → start_b T b + k ≢ start_a T b + j
other_apart T true j k p l e = omega arith
other_apart T false j k p l e = omega arith

j_lt : (c : Cipher) (i : ℕ) → i % table_length c < table_length c
j_lt Hc128 i = omega arith
j_lt Hc256 i = omega arith

-- a change of A[j] leaves the rest of A, and B
module _ (c : Cipher) (s : List ℕ) (i v : ℕ) where
  pub own_kept : (m : ℕ) → 0 < m → m < table_length c
      → A (table_length c) (set s (place c i) v) i ((i % table_length c + m) % table_length c)
      ≡ A (table_length c) s i ((i % table_length c + m) % table_length c)
  own_kept m p l = get_or-set_other s (place c i) _ v 0 (own_apart c i m p l)

  pub other_kept : (k : ℕ) → k < table_length c → B (table_length c) (set s (place c i) v) i k ≡ B (table_length c) s i k
  other_kept k l = get_or-set_other s (place c i) _ v 0 (other_apart (table_length c) (changes_p (table_length c) i) (i % table_length c) k (j_lt c i) l)
