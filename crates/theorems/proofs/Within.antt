-- The numbers that the refusals of a block are among: those of its lines. Assumes nothing.
use mathlib.Core.Path.{◌≡◌, refl}
use mathlib.Core.Bool.{Bool, true, false, cond}
use mathlib.Core.Option.{Option, none, some}
use mathlib.Core.List.{List, [], ◌∷◌, Memᴰ}
use mathlib.Core.Logic.{inl, inr}
use Prim.Native.Nat.{ℕ, zero, suc, ◌*◌}
use native.Mathlib.Omega.{arith}
use borrow.Author.Tests.{eq-eqb}
use lib.Dec.{eqb, leb, ltb}
use lib.IntN.{ℤ, pos, negsuc}
use lib.ListN.{length, drop}
use Rattle.word.specs.Bytes.{words}
use Rattle.cipher.specs.declared.Cipher.{Cipher}
use Rattle.cipher.specs.Numbers.{by_code, area_length, key_length, iv_length}
use Rattle.steps.specs.Steps.{word_at}
use Rattle.setup.specs.SetUp as SetUp
use Rattle.setup.specs.SetUp.{Undone}
use Rattle.varint.specs.Number.{Reading, is, ended, malformed, read_number}
use Rattle.volume.specs.declared.Range.{Range}
use Rattle.volume.specs.Volume.{in_range, count_range, minutes_range, litres_range, ratio_range, product_range, most_groups as groups}
use Rattle.volume.specs.Calls.{number_read, read_value, read_entry, read_entries, is_empty, entries_in}
use Rattle.rates.specs.Calls.{pair_count_range, rate_range, refused_as24, read_pair, read_pairs, pairs_in, load_rates}
use Rattle.laws.specs.Result.{Result, refused, accepted, outcome, ◌>>=◌, ◌>>◌, refuse◌unless◌, refuse◌without◌}
use Rattle.conditions.specs.Limit.{limit}
use Rattle.checkpoint.specs.Checkpoint.{most_groups as checkpointGroups}
use Rattle.conditions.specs.Conditions.{set_up_check, ready, ready_with_word, head_check, within, undo_at, found_or12, position_read, first_byte, cipher_in, contents_in}
use Rattle.theorems.specs.Demand1.{AcceptedOrRefused}
use Rattle.laws.proofs.Results.{no_refusal}

-- the refusal of a result, if it is one, is one of these numbers
pub data Within {A : Type 0} (numbers : List ℕ) : Result A → Type 0 where
  by_one : {n : ℕ} → Memᴰ n numbers → Within numbers (refused n)
  by_none : {a : A} → Within numbers (accepted a)

-- a number that stands in a list
module _ {n : ℕ} {l : List ℕ} where
  pub first : Memᴰ n (n ∷ l)
  first = Memᴰ.head refl

  pub after : {m : ℕ} → Memᴰ n l → Memᴰ n (m ∷ l)
  after = Memᴰ.tail

-- ── a block is within where its lines are ──

module _ {numbers : List ℕ} where
  pub then_line : {A B : Type 0} (r : Result A) (f : A → Result B) → Within numbers r → ((a : A) → Within numbers (f a)) → Within numbers (r >>= f)
  then_line (refused n) f (by_one h) k = by_one h
  then_line (accepted a) f h k = k a

  pub line_unless : {B : Type 0} (n : ℕ) (t : Bool) (q : Result B) → Memᴰ n numbers → Within numbers q → Within numbers ((refuse n unless t) >> q)
  line_unless n true q h k = k
  line_unless n false q h k = by_one h

  pub line_without : {A B : Type 0} (n : ℕ) (o : Option A) (f : A → Result B) → Memᴰ n numbers → ((a : A) → Within numbers (f a))
      → Within numbers ((refuse n without o) >>= f)
  line_without n none f h k = by_one h
  line_without n (some a) f h k = k a

  only_without : {A : Type 0} (n : ℕ) (o : Option A) → Memᴰ n numbers → Within numbers (refuse n without o)
  only_without n none h = by_one h
  only_without n (some a) h = by_none

  pub only_unless : (n : ℕ) (t : Bool) → Memᴰ n numbers → Within numbers (refuse n unless t)
  only_unless n true h = by_none
  only_unless n false h = by_one h

  pub first_line : {A B : Type 0} (r : Result A) (q : Result B) → Within numbers r → Within numbers q → Within numbers (r >> q)
  first_line (refused n) q (by_one h) k = by_one h
  first_line (accepted a) q h k = k

  -- where a result is within the numbers, its outcome is an answer with one of them
  pub answers : {A : Type 0} (old : A) (r : Result A) → Within numbers r → AcceptedOrRefused numbers old r (outcome old r)
  answers old (refused n) (by_one h) = inr (record { number = n; one_of = h; result_is = refl; outcome_is = refl })
  answers old (accepted new) h = inl (record { new = new; result_is = refl; outcome_is = refl })

  -- ── conditions that several calls share ──

  pub set_up_within : (code key iv size : ℕ) → Memᴰ 1 numbers → Memᴰ 2 numbers → Memᴰ 3 numbers → Memᴰ 4 numbers
      → Within numbers (set_up_check code key iv size)
  unfolding set_up_check
  set_up_within code key iv size a b c d =
      line_without 1 (by_code code) _ a λ x.
      line_unless 2 (eqb key (key_length x)) _ b (line_unless 3 (eqb iv (iv_length x)) _ c (line_unless 4 (eqb size (area_length x)) _ d by_none))

  pub ready_within : (code position size : ℕ) → Memᴰ 1 numbers → Memᴰ 4 numbers → Memᴰ 5 numbers → Within numbers (ready code position size)
  unfolding ready
  ready_within code position size a b c =
      line_without 1 (by_code code) _ a λ x. line_unless 4 (eqb size (area_length x)) _ b (line_unless 5 (leb position limit) _ c by_none)

  pub word_within : (code position word : ℕ) (area : List ℕ) → Memᴰ 1 numbers → Memᴰ 4 numbers → Memᴰ 5 numbers → Memᴰ 13 numbers
      → Within numbers (ready_with_word code position word area)
  unfolding ready_with_word
  word_within code position word area a b c d =
      then_line (ready code position (length area)) _ (ready_within code position (length area) a b c) λ x.
      line_unless 13 (eqb word (word_at x area position)) _ d by_none

  pub head_within : (code position : ℕ) → Memᴰ 1 numbers → Memᴰ 5 numbers → Within numbers (head_check code position)
  unfolding head_check
  head_within code position a b = line_without 1 (by_code code) _ a λ x. line_unless 5 (leb position limit) _ b by_none

  pub found_within : (u : Undone) → Memᴰ 12 numbers → Within numbers (found_or12 u)
  found_within SetUp.none h = by_one h
  found_within (SetUp.found key iv) h = by_none

  pub end_within : (z : ℤ) → Memᴰ 7 numbers → Memᴰ 6 numbers → Within numbers (within z)
  end_within (negsuc n) a b = by_one a
  end_within (pos n) a b = line_unless 6 (leb n limit) _ b by_none

  pub position_within : (f : Reading) → Memᴰ 9 numbers → Memᴰ 10 numbers → Within numbers (position_read f)
  position_within (is value rest) a b = by_none
  position_within ended a b = by_one a
  position_within malformed a b = by_one b

  -- ── conditions of a checkpoint's string ──

  pub cipher_within : (string : List ℕ) → Memᴰ 9 numbers → Memᴰ 1 numbers → Within numbers (cipher_in string)
  unfolding cipher_in
  cipher_within string a b = line_without 9 (first_byte string) _ a λ code. only_without 1 (by_code code) b

  pub contents_within : (c : Cipher) (string : List ℕ) → Memᴰ 9 numbers → Memᴰ 10 numbers → Memᴰ 5 numbers → Memᴰ 11 numbers
      → Memᴰ 12 numbers → Within numbers (contents_in c string)
  unfolding contents_in
  contents_within c string nine ten five eleven twelve =
      let read = read_number checkpointGroups (drop 1 string) in
      then_line (position_read read) _ (position_within read nine ten) λ place.
      line_unless 5 (leb place.position limit) _ five
      (line_unless 11 (eqb (length place.rest) (4 * area_length c)) _ eleven
      (then_line (found_or12 (undo_at c (words place.rest) place.position)) _
      (found_within (undo_at c (words place.rest) place.position) twelve) λ pair. by_none))

  -- ── conditions of a volume ──

  number_within : (f : Reading) → Memᴰ 16 numbers → Memᴰ 14 numbers → Within numbers (number_read f)
  number_within (is value rest) a b = by_none
  number_within ended a b = by_one a
  number_within malformed a b = by_one b

  module _ (ends : Memᴰ 16 numbers) (form : Memᴰ 14 numbers) (range : Memᴰ 15 numbers) where
    value_within : (r : Range) (string : List ℕ) → Within numbers (read_value r string)
    unfolding read_value
    value_within r string =
        then_line (number_read (read_number groups string)) _ (number_within (read_number groups string) ends form) λ read.
        line_unless 15 (in_range r read.value) _ range by_none

    entry_within : (string : List ℕ) → Within numbers (read_entry string)
    unfolding read_entry
    entry_within string =
        then_line (read_value minutes_range string) _ (value_within minutes_range string) λ minutes.
        then_line (read_value litres_range minutes.rest) _ (value_within litres_range minutes.rest) λ litres.
        then_line (read_value ratio_range litres.rest) _ (value_within ratio_range litres.rest) λ ratio.
        then_line (read_value product_range ratio.rest) _ (value_within product_range ratio.rest) λ product. by_none

    entries_within : (n : ℕ) (string : List ℕ) → Within numbers (read_entries n string)
    unfolding read_entries
    entries_within zero string = by_none
    entries_within (suc n) string =
        then_line (read_entry string) _ (entry_within string) λ first.
        then_line (read_entries n first.rest) _ (entries_within n first.rest) λ others. by_none

    pub volume_within : (string : List ℕ) → Within numbers (entries_in string)
    unfolding entries_in
    volume_within string =
        then_line (read_value count_range string) _ (value_within count_range string) λ count.
        then_line (read_entries count.value count.rest) _ (entries_within count.value count.rest) λ read.
        line_unless 16 (is_empty read.rest) _ ends by_none

  -- ── conditions of a table of rates ──

  module _ (one : Memᴰ 24 numbers) (order : Memᴰ 25 numbers) where
    as24_within : {A : Type 0} (r : Result A) → Within numbers (refused_as24 r)
    as24_within (refused n) = by_one one
    as24_within (accepted a) = by_none

    pairs_within : (n last : ℕ) (string : List ℕ) → Within numbers (read_pairs n last string)
    unfolding read_pairs read_pair
    pairs_within zero last string = by_none
    pairs_within (suc n) last string =
        then_line (read_pair last string) _
        (then_line (refused_as24 (read_value product_range string)) _ (as24_within (read_value product_range string)) λ product.
        line_unless 25 (ltb last product.value) _ order
        (then_line (refused_as24 (read_value rate_range product.rest)) _ (as24_within (read_value rate_range product.rest)) λ rate. by_none)) λ first.
        then_line (read_pairs n first.pair.product first.rest) _ (pairs_within n first.pair.product first.rest) λ others. by_none

    pub rates_within : (string : List ℕ) → Within numbers (load_rates string)
    unfolding load_rates pairs_in
    rates_within string =
        then_line (pairs_in string) _
        (then_line (refused_as24 (read_value pair_count_range string)) _ (as24_within (read_value pair_count_range string)) λ count.
        then_line (read_pairs count.value 0 count.rest) _ (pairs_within count.value 0 count.rest) λ read.
        line_unless 24 (is_empty read.rest) _ one by_none) λ pairs. by_none

-- ── a number that is not among them is not the refusal ──

-- whether a number stands in a list
abbrev pub among : ℕ → List ℕ → Bool
among n [] = false
among n (m ∷ l) = cond (eqb n m) true (among n l)

true_false : {C : Type 0} {b : Bool} → b ≡ true → b ≡ false → C
true_false p q = let z : ◌≡◌ {A = ℕ} 0 1 = cc in absurd (omega arith)

either_true : (a b : Bool) → b ≡ true → cond a true b ≡ true
either_true true b e = refl
either_true false b e = e

is_among : (n : ℕ) (l : List ℕ) → Memᴰ n l → among n l ≡ true
is_among n [] h = elim h [ ]
is_among n (m ∷ l) (Memᴰ.head e) = rw (eq-eqb n m e)
is_among n (m ∷ l) (Memᴰ.tail h) = either_true (eqb n m) (among n l) (is_among n l h)

pub not_among : (n : ℕ) (l : List ℕ) → Memᴰ n l → among n l ≡ false → ⊥
not_among n l h e = true_false (is_among n l h) e

pub within_not : {A : Type 0} (n : ℕ) (numbers : List ℕ) (r : Result A) → Within numbers r → among n numbers ≡ false → r ≡ refused n → ⊥
within_not n numbers (refused m) (by_one h) e q = let z : m ≡ n = cc in not_among n numbers (rw z at h) e
within_not n numbers (accepted a) h e q = no_refusal q
