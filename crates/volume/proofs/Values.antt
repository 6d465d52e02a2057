-- A number at a place of a string as a value in its range: as it is checked, and as it is read again. Assumes nothing.
use mathlib.Core.Path.{◌≡◌, refl, sym, ap, ◌∙◌}
use mathlib.Core.Bool.{Bool, true, false}
use mathlib.Core.List.{List}
use Prim.Native.Nat.{ℕ, ◌^◌, ◌<◌, ◌≤◌}
use native.Mathlib.Omega.{arith}
use borrow.Author.Tests.{le-leb, lt-leb, leb-true}
use lib.Dec.{leb}
use lib.ListN.{get_or, drop}
use Rattle.laws.specs.Result.{Result, refused, accepted, ◌>>=◌, ◌>>◌, refuse◌unless◌}
use Rattle.laws.proofs.Same.{and_left, and_right}
use Rattle.laws.proofs.Lists.{drop_below}
use Rattle.laws.proofs.Results.{no_refusal, accepted_one}
use Rattle.std.specs.Prelude.{Ok, Err}
use Rattle.varint.specs.declared.Found.{Found}
use Rattle.varint.specs.declared.NoNumber.{NoNumber}
use Rattle.varint.specs.declared.NoNumber.TheVariants as no
use Rattle.varint.specs.Number.{read_number}
use Rattle.varint.specs.Place.{reading_of}
use Rattle.varint.proofs.Reading.{written_read}
use Rattle.volume.specs.declared.Range.{Range}
use Rattle.volume.specs.Volume.{◌to◌, in_range, most_groups}
use Rattle.volume.specs.Calls.{ValueRead, number_read, read_value}
use Rattle.volume.specs.Found.{value_from, NumberReadAgain}

-- a value that is read is in its range
pub ranged_value : (b : Bool) (read v : ValueRead) → ((refuse 15 unless b) >> accepted read) ≡ accepted v → (b ≡ true) × (read ≡ v)
ranged_value true read v e = (refl, accepted_one refl e)
ranged_value false read v e = no_refusal (sym e)

value_ranged : (range : Range) (r : Result ValueRead) (v : ValueRead)
    → (r >>= λ read. (refuse 15 unless in_range range read.value) >> accepted read) ≡ accepted v → in_range range v.value ≡ true
value_ranged range (refused n) v e = no_refusal (sym e)
value_ranged range (accepted read) v e =
    let h = ranged_value (in_range range read.value) read v e in ap (λ (x : ValueRead). in_range range x.value) (sym h.1) ∙ h.0

pub value_in_range : (range : Range) (string : List ℕ) (v : ValueRead) → read_value range string ≡ accepted v → in_range range v.value ≡ true
unfolding read_value
value_in_range range string v e = value_ranged range (number_read (read_number most_groups string)) v e

pub range_holds : (least most n : ℕ) → least ≤ n → n ≤ most → in_range (least to most) n ≡ true
range_holds least most n l m = rw (le-leb least n l, le-leb n most m)

pub range_below : (least most n : ℕ) → n < least → in_range (least to most) n ≡ false
range_below least most n l = rw (lt-leb least n l)

pub range_above : (least most n : ℕ) → least ≤ n → most < n → in_range (least to most) n ≡ false
range_above least most n l m = rw (le-leb least n l, lt-leb n most m)

pub range_most : (range : Range) (n : ℕ) → in_range range n ≡ true → n ≤ range.most
range_most range n e = leb-true n range.most (and_right (leb range.least n) _ e)

pub range_least : (range : Range) (n : ℕ) → in_range range n ≡ true → range.least ≤ n
range_least range n e = leb-true range.least n (and_left _ (leb n range.most) e)

-- ---- read again

module _ (string : List ℕ) (at : ℕ) where
  pub number_again : (found : Found ℕ) → reading_of string (Ok found) ≡ read_number most_groups (drop at string) → NumberReadAgain string at found
  unfolding read_value
  number_again found e range v q = sym (ranged_value (in_range range found.value) (value_from string found) v (rw (sym e) at q)).1

  pub none_again : (no : NoNumber) (found : Found ℕ) → reading_of string (Err no) ≡ read_number most_groups (drop at string) → NumberReadAgain string at found
  unfolding read_value
  none_again no.Ended found e range v q = no_refusal (sym (rw (sym e) at q))
  none_again no.Malformed found e range v q = no_refusal (sym (rw (sym e) at q))

-- a number of three groups fits 32 bits
pub number_fits : (string : List ℕ) (at : ℕ) (found : Found ℕ) → ((i : ℕ) → get_or string i 0 < 256)
    → reading_of string (Ok found) ≡ read_number most_groups (drop at string) → found.value < 2 ^ 32
number_fits string at found bytes q =
    let w = written_read most_groups (omega arith) (drop at string) found.value (drop found.next string) (drop_below at string bytes) (sym q) in
    omega (arith, w.1)
