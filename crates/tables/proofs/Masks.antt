-- Remainders, the five indices, which table changes and the start of A by `&`, where the lengths are powers of two; and a table as a part of the
-- area.
use mathlib.Core.Path.{◌≡◌, refl, sym, ap, ap₂, ◌∙◌}
use mathlib.Core.Bool.{Bool, true, false}
use mathlib.Core.List.{List}
use mathlib.Core.Logic.{⊎_elim}
use Prim.Native.Nat.{ℕ, ◌+◌, ◌-◌, ◌*◌, ◌/◌, ◌%◌, ◌<◌}
use native.Mathlib.Nat.{mod-lt}
use native.Mathlib.Omega.{arith}
use borrow.Author.Tests.{lt-ltb, le-ltb, eq-eqb, ne_eqb}
use lib.Bits.{bit_and, and_mask, and_high}
use lib.Dec.{eqb, ltb}
use lib.ListN.{get_or}
use Rattle.laws.proofs.Lists.{below_or_not}
use Rattle.cipher.specs.declared.Cipher.{Cipher}
use Rattle.cipher.specs.declared.Cipher.TheVariants.{Hc128, Hc256}
use Rattle.cipher.specs.Numbers.{table_length, area_length}
use Rattle.functions.specs.Functions.{table, start_b}
use Rattle.functions.specs.ByCipher.{h_of}
use Rattle.word.specs.Word.{◌⊕◌}
use Rattle.tables.specs.Area.{changes_p, start_a, indices_at, Within}
use Rattle.tables.specs.Step.{place, filter, output}
use Rattle.tables.proofs.Places.{table_size, place_is}

pub area_and : (c : Cipher) (i : ℕ) → bit_and i (area_length c - 1) ≡ i % area_length c
area_and Hc128 i = and_mask i 10
area_and Hc256 i = and_mask i 11

pub table_and : (c : Cipher) (i : ℕ) → bit_and i (table_length c - 1) ≡ i % table_length c
table_and Hc128 i = and_mask i 9
table_and Hc256 i = and_mask i 10

pub indices_within : (c : Cipher) (i : ℕ) → Within (table_length c) (indices_at (table_length c) i)
indices_within c i =
    let some : 0 < table_length c = omega (arith, (table_size c).0) in
    record { j_in = mod-lt _ some; minus3_in = mod-lt _ some; minus10_in = mod-lt _ some; plus1_in = mod-lt _ some; minus12_in = mod-lt _ some }

-- P changes where the bit of T in i is 0
pub changes_and : (c : Cipher) (i : ℕ) → eqb (bit_and i (table_length c)) 0 ≡ changes_p (table_length c) i
changes_and Hc128 i =
    let e : bit_and i 512 ≡ i / 512 % 2 * 512 = and_high i 1 9 in
    rw e
    (⊎_elim
    (λ l. rw (lt-ltb (i % 1024) 512 l) (eq-eqb (i / 512 % 2 * 512) 0 (omega arith)))
    (λ l. rw (le-ltb (i % 1024) 512 l) (let b : i / 512 % 2 ≡ 1 = omega arith in ne_eqb (i / 512 % 2 * 512) 0 (λ e. omega arith)))
    (below_or_not (i % 1024) 512))
changes_and Hc256 i =
    let e : bit_and i 1024 ≡ i / 1024 % 2 * 1024 = and_high i 1 10 in
    rw e
    (⊎_elim
    (λ l. rw (lt-ltb (i % 2048) 1024 l) (eq-eqb (i / 1024 % 2 * 1024) 0 (omega arith)))
    (λ l. rw (le-ltb (i % 2048) 1024 l) (let b : i / 1024 % 2 ≡ 1 = omega arith in ne_eqb (i / 1024 % 2 * 1024) 0 (λ e. omega arith)))
    (below_or_not (i % 2048) 1024))

-- of a place k in the area, the start of the table that it is in
half_128 : (k : ℕ) → k < 1024 → k / 512 % 2 * 512 ≡ start_a 512 (ltb k 512)
half_128 k l = ⊎_elim (λ m. rw (lt-ltb k 512 m) (omega arith)) (λ m. rw (le-ltb k 512 m) (omega arith)) (below_or_not k 512)

half_256 : (k : ℕ) → k < 2048 → k / 1024 % 2 * 1024 ≡ start_a 1024 (ltb k 1024)
half_256 k l = ⊎_elim (λ m. rw (lt-ltb k 1024 m) (omega arith)) (λ m. rw (le-ltb k 1024 m) (omega arith)) (below_or_not k 1024)

pub start_and : (c : Cipher) (i : ℕ) → bit_and (i % area_length c) (table_length c) ≡ start_a (table_length c) (changes_p (table_length c) i)
start_and Hc128 i = and_high (i % 1024) 1 9 ∙ half_128 (i % 1024) (omega arith)
start_and Hc256 i = and_high (i % 2048) 1 10 ∙ half_256 (i % 2048) (omega arith)

-- j - 12 modulo T, from the place of A[j]
pub minus12_is : (c : Cipher) (i : ℕ) → (i % area_length c + 1012) % table_length c ≡ (i % table_length c + (table_length c - 12)) % table_length c
minus12_is Hc128 i = omega arith
minus12_is Hc256 i = omega arith

-- where the table that is looked up begins
pub start_b_lem : (T : ℕ) (p : Bool) → T - start_a T p ≡ start_b T p
start_b_lem T true = omega arith
start_b_lem T false = omega arith

-- the places that the code reads in an area of n words, for step i
module _ (c : Cipher) (n i : ℕ) where
  abbrev pub place_of : ℕ
  place_of = bit_and i (n - 1)

  abbrev pub start_of : ℕ
  start_of = bit_and place_of (n / 2)

  abbrev pub minus12_of : ℕ
  minus12_of = start_of + bit_and (place_of + 1012) (n / 2 - 1)

  pub record Again : Type 0 where
    pub place_is : place_of ≡ place c i
    pub minus12_is : minus12_of ≡ start_a (table_length c) (changes_p (table_length c) i) + (indices_at (table_length c) i).minus12
    pub other_is : n / 2 - start_of ≡ start_b (table_length c) (changes_p (table_length c) i)

table_half : (c : Cipher) → area_length c / 2 ≡ table_length c
table_half Hc128 = refl
table_half Hc256 = refl

pub again : (c : Cipher) (n i : ℕ) → n ≡ area_length c → Again c n i
again c n i e =
    let T = table_length c in
    let p = changes_p T i in
    let half : n / 2 ≡ T = ap (λ (x : ℕ). x / 2) e ∙ table_half c in
    let k : place_of c n i ≡ i % area_length c = ap (λ (x : ℕ). bit_and i (x - 1)) e ∙ area_and c i in
    let a : start_of c n i ≡ start_a T p = ap₂ bit_and k half ∙ start_and c i in
    let m : bit_and (place_of c n i + 1012) (n / 2 - 1) ≡ (i % T + (T - 12)) % T =
    ap₂ (λ (x t : ℕ). bit_and (x + 1012) (t - 1)) k half ∙ table_and c _ ∙ minus12_is c i in
    record {
      place_is = k ∙ sym (place_is c i);
      minus12_is = ap₂ (λ (x y : ℕ). x + y) a m;
      other_is = ap₂ (λ (x y : ℕ). x - y) half a ∙ start_b_lem T p;
    }

-- what is read at them is the output of step i
pub output_read : (c : Cipher) (s : List ℕ) (i : ℕ) {k m b w : ℕ} {B : ℕ → ℕ}
    → k ≡ place c i → m ≡ start_a (table_length c) (changes_p (table_length c) i) + (indices_at (table_length c) i).minus12
    → b ≡ start_b (table_length c) (changes_p (table_length c) i) → B ≡ table s b → w ≡ h_of c B (get_or s m 0)
    → w ⊕ get_or s k 0 ≡ output c s i
unfolding h_of filter output
output_read Hc128 s i e f g h q = rw (q, h, g, f, e) refl
output_read Hc256 s i e f g h q = rw (q, h, g, f, e) refl
