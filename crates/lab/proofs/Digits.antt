-- Reading a number in decimal from the left: one digit more, a byte that is no digit, and a value that does not fit.
use mathlib.Core.Path.{◌≡◌, refl, sym, ap, ◌∙◌}
use mathlib.Core.Bool.{Bool, true, false, cond}
use mathlib.Core.List.{List, [], ◌∷◌}
use Prim.Native.Nat.{ℕ, ◌+◌, ◌-◌, ◌*◌, ◌≤◌, ◌<◌}
use native.Mathlib.Numerals.{add-one}
use native.Mathlib.Omega.{arith}
use borrow.Author.Tests.{le-leb, lt-leb, lt-ltb, le-ltb}
use lib.ListN.{length, drop, get_or, length-drop}
use lib.Seq.{drop-cons}
use Rattle.std.specs.Prelude.{Option, Some, None}
use Rattle.lab.specs.Decimal.{is_digit, digits, fits, decimal}

pub of_empty : (text : List ℕ) → length text ≡ 0 → None ≡ decimal text
unfolding decimal
of_empty [] h = refl
of_empty (b ∷ text) h = absurd (omega arith)

either : (t : Bool) (o : Option ℕ) → fits o ≡ None → fits (cond t o None) ≡ None
either true o e = e
either false o e = refl

-- a value that does not fit never fits again
over : (n : ℕ) (text : List ℕ) → 18446744073709551616 ≤ n → fits (digits n text) ≡ None
unfolding digits
over n [] h = rw (le-ltb n 18446744073709551616 h)
over n (b ∷ text) h = either (is_digit b) _ (over (10 * n + (b - 48)) text (omega arith))

-- the value after the last byte
at_end : (n : ℕ) (text : List ℕ) → length text ≡ 0 → n < 18446744073709551616 → fits (digits n text) ≡ Some n
unfolding digits
at_end n [] h l = rw (lt-ltb n 18446744073709551616 l)
at_end n (b ∷ text) h l = absurd (omega arith)

-- the digits of a text from place i on, read after the number n, which fits, give the text's number
pub record Reads (text : List ℕ) (n i : ℕ) : Type 0 where
  pub small : n < 18446744073709551616
  pub reads : decimal text ≡ fits (digits n (drop i text))

pub starts : (text : List ℕ) → (length text ≡ 0 → ⊥) → Reads text 0 0
unfolding decimal
starts [] h = absurd (h refl)
starts (b ∷ text) h = record { small = omega arith; reads = refl }

module _ (text : List ℕ) (n i : ℕ) (r : Reads text n i) where
  pub ends : length text ≤ i → Some n ≡ decimal text
  ends h = sym (r.reads ∙ at_end n (drop i text) (simp length-drop (omega arith)) r.small)

  module _ (l : i < length text) where
    -- the byte at i is no digit
    pub below_digits : get_or text i 0 < 48 → None ≡ decimal text
    unfolding digits
    below_digits p = rw (r.reads, drop-cons text i 0 l, lt-leb 48 (get_or text i 0) p)

    pub above_digits : 57 < get_or text i 0 → None ≡ decimal text
    unfolding digits
    above_digits p =
        let q : 48 ≤ get_or text i 0 = omega arith in
        rw (r.reads, drop-cons text i 0 l, le-leb 48 (get_or text i 0) q, lt-leb (get_or text i 0) 57 p)

    -- it is one
    module _ (p : 48 ≤ get_or text i 0) (q : get_or text i 0 ≤ 57) where
      one_more : digits n (drop i text) ≡ digits (10 * n + (get_or text i 0 - 48)) (drop (i + 1) text)
      unfolding digits
      one_more = rw (drop-cons text i 0 l, add-one i, le-leb 48 (get_or text i 0) p, le-leb (get_or text i 0) 57 q)

      pub goes_on : (m : ℕ) → m ≡ n * 10 + (get_or text i 0 - 48) → n * 10 + (get_or text i 0 - 48) < 18446744073709551616
          → Reads text m (i + 1)
      goes_on m e f =
          let e' : m ≡ 10 * n + (get_or text i 0 - 48) = omega arith in
          record { small = omega arith; reads = r.reads ∙ ap fits one_more ∙ rw e' }

      pub too_large : 18446744073709551616 ≤ n * 10 + (get_or text i 0 - 48) → None ≡ decimal text
      too_large h = sym (r.reads ∙ ap fits one_more ∙ over (10 * n + (get_or text i 0 - 48)) (drop (i + 1) text) (omega arith))
