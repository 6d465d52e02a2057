-- A number that reading refuses: its groups show whether it is cut, or where it became hopeless. Assumes nothing.
use mathlib.Core.Path.{◌≡◌, refl, sym, ap, ◌∙◌}
use mathlib.Core.Bool.{Bool, true, false}
use mathlib.Core.Logic.{⊎_elim}
use mathlib.Core.List.{List, [], ◌∷◌, ◌++◌, append_assoc, append-nil}
use Prim.Native.Nat.{ℕ, zero, suc, ◌+◌, ◌-◌, ◌*◌, ◌^◌, ◌≤◌, ◌<◌}
use native.Mathlib.Nat.{mul-add, mul_comm, mul_assoc, mul-le-mul_left, pow-suc}
use native.Mathlib.Omega.{arith}
use borrow.Author.Tests.{lt-ltb, le-ltb}
use lib.ListN.{length}
use lib.Seq.{take_at}
use Rattle.laws.specs.Result.{Result, refused, accepted, ◌>>=◌, ◌>>◌, refuse◌unless◌}
use Rattle.laws.proofs.Results.{no_refusal}
use Rattle.laws.proofs.Lists.{below_or_not, cons_below, take_below}
use Rattle.word.specs.Bytes.{AllBytes}
use Rattle.varint.specs.Number.{Reading, is, ended, malformed, read_groups}
use Rattle.varint.proofs.Place.{onto, onto_none, onto_more}
use Rattle.varint.proofs.Reading.{read_last, read_small, read_more, groups_read}
use Rattle.volume.specs.declared.Range.{Range}
use Rattle.volume.specs.Volume.{in_range}
use Rattle.volume.specs.Calls.{ValueRead, number_read, read_value, check_volume}
use Rattle.volume.proofs.Values.{ranged_value, range_holds, range_most}
use Rattle.soundness.specs.declared.Soundness.TheVariants as answer
use Rattle.soundness.specs.Soundness.{Fits}
use Rattle.soundness.specs.Found.{hopeless_before, groups_soundness, number_soundness}
use Rattle.soundness.proofs.Completions.{Completes, cut_fits, hopeless_fits}

-- some bytes are accepted
pub record Goes (read : List ℕ → Result (Unit {0})) : Type 0 where
  pub more : List ℕ
  pub bytes : AllBytes more
  pub accepts : read more ≡ accepted tt

pub front_bytes : (a b : List ℕ) → AllBytes (a ++ b) → AllBytes a
front_bytes a b h = rw (take_at a b (length a) refl) at (take_below (length a) (a ++ b) h)

-- the least number that goes on with group b, whose weight is w
pub least_with : (v w b : ℕ) → 128 ≤ b → v + w * (b - 128) + 128 * w ≡ v + w * b
least_with v w b h =
    let e : b ≡ b - 128 + 128 = omega arith in
    let d : w * b ≡ w * (b - 128) + w * 128 = ap (λ (x : ℕ). w * x) e ∙ mul-add w (b - 128) 128 in
    omega (arith, d, mul_comm w 128)

-- a group fewer may follow, whose weight is that of one group more
pub next_left : (most w k : ℕ) → most < w * 128 ^ suc k → most < 128 * w * 128 ^ k
next_left most w k h = rw (pow-suc 128 k, mul_comm (128 ^ k) 128, ← mul_assoc w 128 (128 ^ k), mul_comm w 128) at h

-- a range of numbers up to three groups that has 1 in it
pub record HasOne (range : Range) : Type 0 where
  pub small : range.most < 128 ^ 3
  pub from : range.least ≤ 1
  pub to : 1 ≤ range.most

module _ (range : Range) where
  abbrev pub ranged : Reading → Result ValueRead
  ranged f = number_read f >>= λ read. (refuse 15 unless in_range range read.value) >> accepted read

  -- what up to k further groups of a number are read as, the last of which is not below `least`; the groups before make `value` in all, and the
  -- first of these has this weight
  abbrev pub rest_read : (k least value weight : ℕ) → List ℕ → Result ValueRead
  rest_read k least value weight s = ranged (onto value weight (read_groups k least s))

  pub all_read : (s : List ℕ) → read_value range s ≡ rest_read 3 0 0 1 s
  unfolding read_value
  all_read s = sym (ap ranged (onto_none (read_groups 3 0 s)))

  module _ (k least value weight : ℕ) where
    on_more : (b : ℕ) (s : List ℕ) → 128 ≤ b → rest_read (suc k) least value weight (b ∷ s) ≡ rest_read k 1 (value + weight * (b - 128)) (128 * weight) s
    on_more b s h = ap (λ (f : Reading). ranged (onto value weight f)) (read_more k least b s h) ∙ ap ranged (onto_more value weight b (read_groups k 1 s))

    -- group 1 as the last one
    on_one : (s : List ℕ) → least ≤ 1 → 1 ≤ weight → range.least ≤ 1 → value + weight ≤ range.most
        → rest_read (suc k) least value weight (1 ∷ s) ≡ accepted (record { value = value + weight * 1; rest = s })
    on_one s l p f t =
        let r = range_holds range.least range.most (value + weight * 1) (omega arith) (omega arith) in
        ap (λ (g : Reading). ranged (onto value weight g)) (read_last k least 1 s (omega arith) l) ∙ rw r

    same_range : (c : Bool) (x y a : ValueRead) (m : ℕ) → ((refuse 15 unless c) >> accepted x) ≡ refused m
        → ((refuse 15 unless c) >> accepted y) ≡ accepted a → ⊥
    same_range true x y a m p q = no_refusal p
    same_range false x y a m p q = no_refusal (sym q)

    -- where a last group is refused, it is not accepted whatever bytes come after it
    on_last : (b : ℕ) (s t : List ℕ) (m : ℕ) (a : ValueRead) → b < 128 → rest_read (suc k) least value weight (b ∷ s) ≡ refused m
        → rest_read (suc k) least value weight (b ∷ t) ≡ accepted a → ⊥
    on_last b s t m a h p q = ⊎_elim
        (λ (l : b < least). no_refusal (sym (rw (read_small k least b t h l) at q)))
        (λ (l : least ≤ b).
        same_range (in_range range (value + weight * b)) (record { value = value + weight * b; rest = s }) (record { value = value + weight * b; rest = t }) a m
        (rw (read_last k least b s h l) at p) (rw (read_last k least b t h l) at q))
        (below_or_not b least)

  -- where the least number is beyond the range, no groups that follow are accepted
  on_beyond : (k value weight : ℕ) (s : List ℕ) (f : Reading) (a : ValueRead) → k ≤ 10 → AllBytes s → read_groups k 1 s ≡ f
      → range.most < value + weight → ranged (onto value weight f) ≡ accepted a → ⊥
  on_beyond k value weight s (is n rest) a h bytes e l q =
      let w = groups_read k 1 s n rest h (omega arith) bytes e in
      let m : weight * 1 ≤ weight * n = mul-le-mul_left weight w.at_least in
      let t = range_most range (value + weight * n) (ranged_value (in_range range (value + weight * n)) (record { value = value + weight * n; rest = rest }) a q).0 in
      omega arith
  on_beyond k value weight s ended a h bytes e l q = no_refusal (sym q)
  on_beyond k value weight s malformed a h bytes e l q = no_refusal (sym q)

-- where after each number of a range some bytes are accepted, some bytes that begin with such a number are
pub goes_number : (range : Range) → HasOne range → (after : ℕ → List ℕ → Result (Unit {0})) → ((n : ℕ) → in_range range n ≡ true → Goes (after n))
    → Goes (λ t. read_value range t >>= λ read. after read.value read.rest)
goes_number range one after goes =
    let g = goes 1 (range_holds range.least range.most 1 one.from one.to) in
    let e = all_read range (1 ∷ g.more) ∙ on_one range 2 0 0 1 g.more (omega arith) (omega arith) one.from (omega (arith, one.to)) in
    record { more = 1 ∷ g.more; bytes = cons_below g.more (omega arith) g.bytes; accepts = rw e g.accepts }

refused_else : (r : Result ValueRead) → ((a : ValueRead) → r ≡ accepted a → ⊥) → (m : ℕ) × (r ≡ refused m)
refused_else (refused m) not = (m, refl)
refused_else (accepted a) not = absurd (not a refl)

-- a number whose second group announces a third, in a range where no number has three groups
pub third_refused : (range : Range) (b₁ b₂ : ℕ) (s : List ℕ) → 128 ≤ b₁ → 128 ≤ b₂ → AllBytes s → range.most < 128 * 128
    → (m : ℕ) × (read_value range (b₁ ∷ b₂ ∷ s) ≡ refused m)
third_refused range b₁ b₂ s h₁ h₂ bytes l =
    let e = all_read range (b₁ ∷ b₂ ∷ s) ∙ on_more range 2 0 0 1 b₁ (b₂ ∷ s) h₁ ∙ on_more range 1 1 (0 + 1 * (b₁ - 128)) (128 * 1) b₂ s h₂ in
    refused_else (read_value range (b₁ ∷ b₂ ∷ s)) λ a q.
    on_beyond range 1 _ _ s (read_groups 1 1 s) a (omega arith) bytes refl (omega arith) (sym e ∙ q)

-- the clauses of `groups_soundness`, by the tests that choose them
module _ (string : List ℕ) (most value weight : ℕ) where
  pub groups_end : groups_soundness string most value weight [] ≡ answer.Cut
  unfolding groups_soundness
  groups_end = refl

  module _ (b : ℕ) (s : List ℕ) where
    pub groups_last : b < 128 → groups_soundness string most value weight (b ∷ s) ≡ hopeless_before string s
    unfolding groups_soundness
    groups_last h = rw (lt-ltb b 128 h)

    pub groups_beyond : 128 ≤ b → most < value + weight * b → groups_soundness string most value weight (b ∷ s) ≡ hopeless_before string s
    unfolding groups_soundness
    groups_beyond h l = rw (le-ltb b 128 h, lt-ltb most (value + weight * b) l)

    pub groups_more : 128 ≤ b → value + weight * b ≤ most
        → groups_soundness string most value weight (b ∷ s) ≡ groups_soundness string most (value + weight * (b - 128)) (128 * weight) s
    unfolding groups_soundness
    groups_more h l = rw (le-ltb b 128 h, le-ltb most (value + weight * b) l)

module _ (range : Range) (one : HasOne range) (string : List ℕ) (bytes : AllBytes string)
    (after : ℕ → List ℕ → Result (Unit {0})) (goes : (n : ℕ) → in_range range n ≡ true → Goes (after n)) where
  abbrev then : Result ValueRead → Result (Unit {0})
  then r = r >>= λ read. after read.value read.rest

  -- a place inside a number that is refused: what lies before it, and the groups that follow
  record Inside (before groups : List ℕ) (k least value weight m : ℕ) : Type 0 where
    string_is : string ≡ before ++ groups
    check_is : (t : List ℕ) → check_volume (before ++ t) ≡ then (rest_read range k least value weight t)
    refused_is : rest_read range k least value weight groups ≡ refused m
    least_most : least ≤ 1
    weight_least : 1 ≤ weight
    can_be : value + weight ≤ range.most
    left : range.most < weight * 128 ^ k
    k_most : k ≤ 3

  module _ (before groups : List ℕ) (k least value weight m : ℕ) (i : Inside before groups (suc k) least value weight m) where
    completes : Completes before
    completes =
        let r = range_holds range.least range.most (value + weight * 1) (omega (arith, i.weight_least, one.from)) (omega (arith, i.can_be)) in
        let g = goes (value + weight * 1) r in
        let e = on_one range k least value weight g.more i.least_most i.weight_least one.from i.can_be in
        record {
          more = 1 ∷ g.more;
          bytes = cons_below g.more (omega arith) g.bytes;
          checks = i.check_is (1 ∷ g.more) ∙ rw e g.accepts;
        }

    before_bytes : AllBytes before
    before_bytes = front_bytes before groups (rw i.string_is at bytes)

  none_after : (r : Result ValueRead) → ((a : ValueRead) → r ≡ accepted a → ⊥) → then r ≡ accepted tt → ⊥
  none_after (refused n) not e = no_refusal (sym e)
  none_after (accepted a) not e = not a refl

  -- hopeless at byte b, where no bytes are accepted after it in its number
  hopeless : (before s : List ℕ) (b k least value weight m : ℕ) → Inside before (b ∷ s) (suc k) least value weight m
      → ((t : List ℕ) (a : ValueRead) → AllBytes t → rest_read range (suc k) least value weight (b ∷ t) ≡ accepted a → ⊥)
      → Fits string (hopeless_before string s)
  hopeless before s b k least value weight m i not =
      let c = completes before (b ∷ s) k least value weight m i in
      let h = before_bytes before (b ∷ s) k least value weight m i in
      rw i.string_is (hopeless_fits before s b h c (λ more u x. none_after _ (λ a q. not more a u q) (sym (i.check_is (b ∷ more)) ∙ x)))

  -- the answer for a place inside a number, by the groups that follow
  in_number : (groups before : List ℕ) (k least value weight m : ℕ) → Inside before groups k least value weight m
      → Fits string (groups_soundness string range.most value weight groups)
  in_number groups before zero least value weight m i = absurd (omega (arith, i.left, i.can_be))
  in_number [] before (suc k) least value weight m i =
      let e : string ≡ before = i.string_is ∙ append-nil before in
      rw (groups_end string range.most value weight)
      (cut_fits string m bytes (ap check_volume i.string_is ∙ i.check_is [] ∙ rw i.refused_is) (rw e (completes before [] k least value weight m i)))
  in_number (b ∷ s) before (suc k) least value weight m i =
      ⊎_elim
      (λ (l : b < 128).
      rw (groups_last string range.most value weight b s l)
      (hopeless before s b k least value weight m i (λ t a _ q. on_last range k least value weight b s t m a l i.refused_is q)))
      (λ (l : 128 ≤ b).
      ⊎_elim
      (λ (o : range.most < value + weight * b).
      rw (groups_beyond string range.most value weight b s l o)
      (hopeless before s b k least value weight m i (λ t a u q.
      on_beyond range k (value + weight * (b - 128)) (128 * weight) t (read_groups k 1 t) a (omega (arith, i.k_most)) u refl
      (rw (least_with value weight b l) o) (sym (on_more range k least value weight b t l) ∙ q))))
      (λ (o : value + weight * b ≤ range.most).
      rw (groups_more string range.most value weight b s l o)
      (in_number s (before ++ (b ∷ [])) k 1 (value + weight * (b - 128)) (128 * weight) m
      (record {
        string_is = i.string_is ∙ sym (append_assoc before (b ∷ []) s);
        check_is = λ t. ap check_volume (append_assoc before (b ∷ []) t) ∙ i.check_is (b ∷ t) ∙ ap then (on_more range k least value weight b t l);
        refused_is = sym (on_more range k least value weight b s l) ∙ i.refused_is;
        least_most = omega arith;
        weight_least = omega (arith, i.weight_least);
        can_be = rw (least_with value weight b l) o;
        left = next_left range.most weight k i.left;
        k_most = omega (arith, i.k_most);
      })))
      (below_or_not range.most (value + weight * b)))
      (below_or_not b 128)

  -- the answer for a number that is refused, after what lies before it
  pub number_fits : (before rest : List ℕ) (m : ℕ) → string ≡ before ++ rest
      → ((t : List ℕ) → check_volume (before ++ t) ≡ then (read_value range t)) → read_value range rest ≡ refused m
      → Fits string (number_soundness string range rest)
  number_fits before rest m e c r =
      in_number rest before 3 0 0 1 m
      (record {
        string_is = e;
        check_is = λ t. c t ∙ ap then (all_read range t);
        refused_is = sym (all_read range rest) ∙ r;
        least_most = omega arith;
        weight_least = omega arith;
        can_be = omega (arith, one.to);
        left = omega (arith, one.small);
        k_most = omega arith;
      })
