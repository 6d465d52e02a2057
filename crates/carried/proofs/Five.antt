-- The carried five are those of the step number modulo T, also where one wraps. Assumes nothing.
use mathlib.Core.Path.{◌≡◌, refl, sym, ap, ◌∙◌}
use mathlib.Core.Bool.{Bool, true, false, cond}
use mathlib.Core.Logic.{⊎_elim}
use Prim.Native.Nat.{ℕ, zero, suc, ◌+◌, ◌-◌, ◌%◌, ◌≤◌, ◌<◌}
use native.Mathlib.Nat.{add-zero}
use native.Mathlib.Omega.{arith}
use borrow.Author.Tests.{eq-eqb, ne_eqb}
use lib.Dec.{eqb}
use Rattle.laws.specs.Iterate.{forward}
use Rattle.laws.proofs.Iterate.{forward_more, forward_add, forward_same}
use Rattle.laws.proofs.Lists.{below_or_not}
use Rattle.cipher.specs.declared.Cipher.{Cipher}
use Rattle.cipher.specs.declared.Cipher.TheVariants.{Hc128, Hc256}
use Rattle.cipher.specs.Numbers.{table_length}
use Rattle.tables.specs.declared.Indices.{Indices}
use Rattle.tables.specs.Area.{indices_at, Within}
use Rattle.tables.proofs.Places.{table_size}
use Rattle.carried.specs.Carried.{up, carry, carried, next_five, five_of}
use Rattle.carried.specs.Runs.{carry_unwrapped, NoneWraps}

-- ---- one index

-- an index that is d on from i modulo T is that of the next step after it is carried
up_is : (c : Cipher) (i d : ℕ) → up (table_length c) ((i % table_length c + d) % table_length c) ≡ ((i + 1) % table_length c + d) % table_length c
up_is Hc128 i d =
    ⊎_elim
    (λ l. rw (ne_eqb ((i % 512 + d) % 512 + 1) 512 (λ e. omega arith)) (omega arith))
    (λ l. rw (eq-eqb ((i % 512 + d) % 512 + 1) 512 (omega arith)) (omega arith))
    (below_or_not ((i % 512 + d) % 512) 511)
up_is Hc256 i d =
    ⊎_elim
    (λ l. rw (ne_eqb ((i % 1024 + d) % 1024 + 1) 1024 (λ e. omega arith)) (omega arith))
    (λ l. rw (eq-eqb ((i % 1024 + d) % 1024 + 1) 1024 (omega arith)) (omega arith))
    (below_or_not ((i % 1024 + d) % 1024) 1023)

up_j : (c : Cipher) (i : ℕ) → up (table_length c) (i % table_length c) ≡ (i + 1) % table_length c
up_j Hc128 i =
    ⊎_elim
    (λ l. rw (ne_eqb (i % 512 + 1) 512 (λ e. omega arith)) (omega arith))
    (λ l. rw (eq-eqb (i % 512 + 1) 512 (omega arith)) (omega arith))
    (below_or_not (i % 512) 511)
up_j Hc256 i =
    ⊎_elim
    (λ l. rw (ne_eqb (i % 1024 + 1) 1024 (λ e. omega arith)) (omega arith))
    (λ l. rw (eq-eqb (i % 1024 + 1) 1024 (omega arith)) (omega arith))
    (below_or_not (i % 1024) 1023)

-- ---- the five

pub carry_is : (c : Cipher) (i : ℕ) → carry (table_length c) (indices_at (table_length c) i) ≡ indices_at (table_length c) (i + 1)
carry_is c i = rw (up_is c i (table_length c - 3), up_is c i (table_length c - 10), up_is c i 1, up_is c i (table_length c - 12), up_j c i) refl

pub carried_is : (c : Cipher) (i n : ℕ) → carried (table_length c) (indices_at (table_length c) i) n ≡ indices_at (table_length c) (i + n)
unfolding forward
carried_is c i zero = ap (indices_at (table_length c)) (sym (add-zero i))
carried_is c i (suc n) =
    let e : i + n + 1 ≡ i + suc n = omega arith in
    ap (carry (table_length c)) (carried_is c i n) ∙ carry_is c (i + n) ∙ ap (indices_at (table_length c)) e

next_is : (c : Cipher) (i : ℕ) (b : Bool) → cond b (indices_at (table_length c) (i + 1)) (carry (table_length c) (indices_at (table_length c) i)) ≡ indices_at (table_length c) (i + 1)
next_is c i true = refl
next_is c i false = carry_is c i

pub within_all : (c : Cipher) (x : Indices) → Within (table_length c) x → Within 1024 x
within_all c x v =
    let t = (table_size c).1 in
    record { j_in = omega (arith, v.j_in); minus3_in = omega (arith, v.minus3_in); minus10_in = omega (arith, v.minus10_in); plus1_in = omega (arith, v.plus1_in); minus12_in = omega (arith, v.minus12_in) }

pub five_is : (c : Cipher) (i n : ℕ) → five_of (table_length c) i n ≡ indices_at (table_length c) (i + n)
unfolding forward
five_is c i zero = ap (indices_at (table_length c)) (sym (add-zero i))
five_is c i (suc n) =
    let T = table_length c in
    let e : i + n + 1 ≡ i + suc n = omega arith in
    ap (λ (x : Indices). next_five T x (i + n)) (five_is c i n) ∙ next_is c (i + n) (eqb ((i + n + 1) % T) 0) ∙ ap (indices_at T) e

-- ---- where none wraps

pub none_wraps_now : (T : ℕ) (x : Indices) (n : ℕ) → NoneWraps T x n → Within T x
none_wraps_now T x n v = record { j_in = omega (arith, v.j_in); minus3_in = omega (arith, v.minus3_in); minus10_in = omega (arith, v.minus10_in); plus1_in = omega (arith, v.plus1_in); minus12_in = omega (arith, v.minus12_in) }

up_raises : (T k n : ℕ) → k + suc n < T → up T k ≡ k + 1
up_raises T k n l = rw (ne_eqb (k + 1) T (λ e. omega arith)) refl

pub unwrapped_is : (T : ℕ) (x : Indices) (n : ℕ) → NoneWraps T x (suc n) → carry_unwrapped x ≡ carry T x
unwrapped_is T x n v =
    rw (
      up_raises T x.j n v.j_in,
      up_raises T x.minus3 n v.minus3_in,
      up_raises T x.minus10 n v.minus10_in,
      up_raises T x.plus1 n v.plus1_in,
      up_raises T x.minus12 n v.minus12_in,
    )
    refl

unwrapped_later : (T : ℕ) (x : Indices) (n : ℕ) → NoneWraps T x (suc n) → NoneWraps T (carry_unwrapped x) n
unwrapped_later T x n v = record { j_in = omega (arith, v.j_in); minus3_in = omega (arith, v.minus3_in); minus10_in = omega (arith, v.minus10_in); plus1_in = omega (arith, v.plus1_in); minus12_in = omega (arith, v.minus12_in) }

-- of n steps in which none wraps, m are taken
pub none_wraps_later : (T : ℕ) (x : Indices) (n m : ℕ) → NoneWraps T x n → m ≤ n → NoneWraps T (carried T x m) (n - m)
unfolding forward
none_wraps_later T x n zero v l = let e : n - 0 ≡ n = omega arith in rw e v
none_wraps_later T x n (suc m) v l =
    let e : n - m ≡ suc (n - suc m) = omega arith in
    let w : NoneWraps T (carried T x m) (suc (n - suc m)) = rw e at (none_wraps_later T x n m v (omega arith)) in
    rw (unwrapped_is T (carried T x m) (n - suc m) w) at (unwrapped_later T (carried T x m) (n - suc m) w)

-- fewer steps
pub none_wraps_fewer : (T : ℕ) (x : Indices) (n k : ℕ) → NoneWraps T x n → k ≤ n → NoneWraps T x k
none_wraps_fewer T x n k v l =
    record { j_in = omega (arith, v.j_in); minus3_in = omega (arith, v.minus3_in); minus10_in = omega (arith, v.minus10_in); plus1_in = omega (arith, v.plus1_in); minus12_in = omega (arith, v.minus12_in) }

-- ---- a loop that has carried the five m times, of n times in which none wraps: x are the five then

pub carried_add : (T : ℕ) (x : Indices) (m k : ℕ) → carried T (carried T x m) k ≡ carried T x (m + k)
carried_add T x m k = forward_same _ _ (carried T x m) 0 (0 + m) k (λ y j. refl) ∙ forward_add (λ y j. carry T y) x 0 m k

module _ (c : Cipher) {x₀ x : Indices} (n m : ℕ) (v : NoneWraps (table_length c) x₀ n) (e : x ≡ carried (table_length c) x₀ m) (l : m < n) where
  left : NoneWraps (table_length c) x (suc (n - m - 1))
  left =
      let s : n - m ≡ suc (n - m - 1) = omega arith in
      rw (e, ← s) (none_wraps_later (table_length c) x₀ n m v (omega arith))

  pub run_within : Within (table_length c) x
  run_within = none_wraps_now (table_length c) x _ left

  pub run_within_1024 : Within 1024 x
  run_within_1024 = within_all c x run_within

  pub run_next : {y : Indices} → y ≡ carry_unwrapped x → y ≡ carried (table_length c) x₀ (m + 1)
  run_next f = f ∙ unwrapped_is (table_length c) x _ left ∙ ap (carry (table_length c)) e ∙ sym (forward_more (λ y j. carry (table_length c) y) x₀ 0 m)
