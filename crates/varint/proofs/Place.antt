-- `read_groups` from a place of a string on, in the form in which the loop over the groups meets it. Assumes nothing.
use mathlib.Core.Path.{◌≡◌, refl, sym, ap, ◌∙◌}
use mathlib.Core.List.{List, ◌∷◌}
use Prim.Native.Nat.{ℕ, suc, ◌+◌, ◌-◌, ◌*◌, ◌^◌, ◌<◌, ◌≤◌}
use native.Mathlib.Nat.{mul-add, mul_assoc, mul_comm, add_assoc, mul-le-mul_left, pow-suc, pow-le-pow_right}
use native.Mathlib.Numerals.{add-one}
use native.Mathlib.Omega.{arith}
use lib.ListN.{length, get_or, drop}
use lib.Seq.{drop-cons, drop-length}
use Rattle.std.specs.Prelude.{Result, Ok, Err}
use Rattle.varint.specs.declared.Found.{Found}
use Rattle.varint.specs.declared.NoNumber.{NoNumber}
use Rattle.varint.specs.declared.NoNumber.TheVariants as no
use Rattle.varint.specs.Number.{Reading, is, ended, malformed, before, read_groups, read_number}
use Rattle.varint.specs.Place.{reading_of, next_within}
use Rattle.varint.proofs.Reading.{read_none, read_end, read_last, read_small, read_more}

-- what groups of this value and weight in all make of the groups after them
abbrev pub onto : (value weight : ℕ) → Reading → Reading
onto value weight (is n rest) = is (value + weight * n) rest
onto value weight ended = ended
onto value weight malformed = malformed

pub onto_none : (f : Reading) → onto 0 1 f ≡ f
onto_none (is n rest) = let e : 0 + 1 * n ≡ n = omega arith in rw e
onto_none ended = refl
onto_none malformed = refl

pub onto_more : (value weight b : ℕ) (f : Reading) → onto value weight (before b f) ≡ onto (value + weight * (b - 128)) (128 * weight) f
onto_more value weight b (is n rest) =
    let e : value + weight * (b - 128 + 128 * n) ≡ value + weight * (b - 128) + 128 * weight * n =
    rw (mul-add, ← add_assoc) (ap (λ (x : ℕ). value + weight * (b - 128) + x) (sym (mul_assoc weight 128 n) ∙ ap (λ (x : ℕ). x * n) (mul_comm weight 128))) in
    rw e
onto_more value weight b ended = refl
onto_more value weight b malformed = refl

-- the next group keeps the value below the weight
pub below_next : (value weight d : ℕ) → value < weight → d < 128 → value + weight * d < 128 * weight
below_next value weight d l h = let m : weight * d ≤ weight * 127 = mul-le-mul_left weight (omega arith) in omega arith

-- what `read_number` ensures of its answer
abbrev Ensured : List ℕ → ℕ → ℕ → Result (Found ℕ) NoNumber → Type 0
Ensured s at most r = (reading_of s r ≡ read_number most (drop at s)) × next_within at (length s) r

module _ (s : List ℕ) (at most : ℕ) where
  -- what the loop keeps: k groups are read, each of which announces another
  pub record Come (value weight least next k : ℕ) : Type 0 where
    pub left : k ≤ most
    pub inside : next ≤ length s
    pub after : at ≤ next
    pub below : value < weight
    pub weight_is : weight ≡ 128 ^ k
    pub reading_is : read_number most (drop at s) ≡ onto value weight (read_groups (most - k) least (drop next s))

  pub comes_first : at ≤ length s → Come 0 1 0 at 0
  comes_first h =
      let e : most - 0 ≡ most = omega arith in
      record {
        left = omega arith;
        inside = h;
        after = omega arith;
        below = omega arith;
        weight_is = refl;
        reading_is = sym (onto_none (read_groups (most - 0) 0 (drop at s)) ∙ ap (λ (k : ℕ). read_groups k 0 (drop at s)) e);
      }

  module _ (value weight least next k : ℕ) (c : Come value weight least next k) where
    -- eight groups and the next one fit 63 bits
    pub group_fits : k < most → most ≤ 9 → (d : ℕ) → d < 128 → (value + weight * d < 2 ^ 63) × (128 * weight ≤ 2 ^ 63)
    group_fits l h d m =
        let eight : k ≤ 8 = omega arith in
        let w : 128 ^ k ≤ 128 ^ 8 = pow-le-pow_right (omega arith) eight in
        let b : weight ≤ 128 ^ 8 = rw c.weight_is w in
        let n = below_next value weight d c.below m in
        (omega arith, omega arith)

    pub none_left : most ≤ k → Ensured s at most (Err no.Malformed)
    none_left l =
        let e : most - k ≡ 0 = omega (arith, c.left) in
        (sym (c.reading_is ∙ rw (e, read_none least (drop next s))), tt)

    module _ (l : k < most) where
      one_more : most - k ≡ suc (most - (k + 1))
      one_more = omega arith

      pub ends : next ≡ length s → Ensured s at most (Err no.Ended)
      ends e = (sym (c.reading_is ∙ rw (one_more, e, drop-length s, read_end (most - (k + 1)) least)), tt)

      module _ (i : next < length s) where
        abbrev b : ℕ
        b = get_or s next 0

        at_group : read_number most (drop at s) ≡ onto value weight (read_groups (suc (most - (k + 1))) least (b ∷ drop (next + 1) s))
        at_group = c.reading_is ∙ ap (λ (j : ℕ). onto value weight (read_groups j least (drop next s))) one_more ∙ rw (drop-cons s next 0 i, add-one next)

        pub last_small : b < 128 → b < least → Ensured s at most (Err no.Malformed)
        last_small h m = (sym (at_group ∙ rw (read_small (most - (k + 1)) least b (drop (next + 1) s) h m)), tt)

        pub last_group : b < 128 → least ≤ b → Ensured s at most (Ok (record { value = value + weight * b; next = next + 1 }))
        last_group h m = (
          sym (at_group ∙ rw (read_last (most - (k + 1)) least b (drop (next + 1) s) h m)),
          (omega (arith, c.after), omega arith),
        )

        pub comes_on : 128 ≤ b → b < 256 → Come (value + weight * (b - 128)) (128 * weight) 1 (next + 1) (k + 1)
        comes_on h m = record {
          left = omega arith;
          inside = omega arith;
          after = omega (arith, c.after);
          below = below_next value weight (b - 128) c.below (omega arith);
          weight_is = rw (add-one k, pow-suc, c.weight_is) (mul_comm 128 (128 ^ k));
          reading_is = at_group ∙ rw (read_more (most - (k + 1)) least b (drop (next + 1) s) h) (onto_more value weight b (read_groups (most - (k + 1)) 1 (drop (next + 1) s)));
        }
