-- A string that is read as pairs with nothing after them is the table of these pairs, and a table is read as its pairs. Assumes nothing.
use mathlib.Core.Path.{◌≡◌, refl, sym, ap, ◌∙◌}
use mathlib.Core.Bool.{Bool, true, false, false≢true}
use mathlib.Core.List.{List, [], ◌∷◌, ◌++◌, append-nil}
use Prim.Native.Nat.{ℕ, ◌<◌, ◌≤◌}
use native.Mathlib.Nat.{add-zero}
use native.Mathlib.Omega.{arith}
use lib.ListN.{length, get_or}
use Rattle.laws.specs.Result.{Result, refused, accepted, ◌>>=◌, ◌>>◌, refuse◌unless◌}
use Rattle.laws.proofs.Lists.{append_below}
use Rattle.laws.proofs.Results.{after_line, after_unless, no_refusal, accepted_one}
use Rattle.varint.specs.Number.{number}
use Rattle.varint.proofs.Groups.{number_bytes}
use Rattle.volume.specs.Calls.{ValueRead, read_value, is_empty}
use Rattle.volume.proofs.Values.{value_in_range, range_holds, range_most}
use Rattle.volume.proofs.Undo.{Bytes, value_back, value_was}
use Rattle.rates.specs.declared.Pair.{Pair}
use Rattle.rates.specs.Table.{pair_string, pairs_string, table_string, InOrder, Table}
use Rattle.rates.specs.Calls.{pair_count_range, refused_as24, PairsRead, read_pairs, pairs_in}
use Rattle.rates.proofs.Pairs.{as24_accepted, pairs_zero, pairs_in_order}
use Rattle.rates.proofs.Strings.{pairs_back, pairs_were}
use Rattle.rates.proofs.Order.{NotAboveIn, as24_never_25, refused_25, gives_25}

-- pairs with nothing after them
abbrev whole : Result PairsRead → Result (List Pair)
whole r = do
  read ← r
  refuse 24 unless is_empty read.rest
  accepted read.pairs

module _ (string : List ℕ) where
  table_lines : pairs_in string ≡ (refused_as24 (read_value pair_count_range string) >>= λ count. whole (read_pairs count.value 0 count.rest))
  unfolding pairs_in
  table_lines = refl

  -- what pairs that are accepted show of the lines
  pub record TableShows (pairs : List Pair) : Type 0 where
    pub count : ValueRead
    pub read : PairsRead
    pub count_is : read_value pair_count_range string ≡ accepted count
    pub read_is : read_pairs count.value 0 count.rest ≡ accepted read
    pub nothing_after : read.rest ≡ []
    pub pairs_are : read.pairs ≡ pairs

  is_empty_lem : (l : List ℕ) → is_empty l ≡ true → l ≡ []
  is_empty_lem [] e = refl
  is_empty_lem (b ∷ l) e = absurd (false≢true e)

  table_shows : (pairs : List Pair) → pairs_in string ≡ accepted pairs → TableShows pairs
  table_shows pairs e =
      after_line (refused_as24 (read_value pair_count_range string)) _ (sym table_lines ∙ e) (λ n q _. no_refusal q) λ count p q.
      after_line (read_pairs count.value 0 count.rest) _ q (λ n q _. no_refusal q) λ read r u.
      after_unless 24 (is_empty read.rest) _ u no_refusal λ t v.
      record {
        count = count;
        read = read;
        count_is = as24_accepted (read_value pair_count_range string) p;
        read_is = r;
        nothing_after = is_empty_lem read.rest t;
        pairs_are = accepted_one refl v;
      }

  pub table_in_order : (pairs : List Pair) → pairs_in string ≡ accepted pairs → InOrder 0 pairs
  table_in_order pairs e =
      let s = table_shows pairs e in
      rw s.pairs_are at (pairs_in_order s.count.value 0 s.count.rest s.read s.read_is)

  pub table_was : (pairs : List Pair) → Bytes string → pairs_in string ≡ accepted pairs → Table string pairs
  unfolding table_string
  table_was pairs bytes e =
      let s = table_shows pairs e in
      let c = value_was pair_count_range string s.count bytes s.count_is in
      let w = pairs_were s.count.value 0 s.count.rest s.read c.rest_bytes s.read_is in
      let count : length pairs ≡ s.count.value = ap length (sym s.pairs_are) ∙ w.count_is in
      let rest : s.count.rest ≡ pairs_string pairs = w.string_is ∙ rw (s.nothing_after, s.pairs_are, append-nil) in
      record {
        count = rw count (range_most pair_count_range s.count.value (value_in_range pair_count_range string s.count s.count_is));
        in_order = table_in_order pairs e;
        string_is = c.string_is ∙ rw (rest, count);
      }

  pub table_back : (pairs : List Pair) → Table string pairs → pairs_in string ≡ accepted pairs
  unfolding table_string
  table_back pairs t =
      let n = length pairs in
      let count = value_back pair_count_range (omega arith) n (pairs_string pairs) (range_holds 0 8 n (omega arith) t.count) in
      let read = rw (add-zero, append-nil, pairs_zero, append-nil) at (pairs_back pairs 0 0 [] t.in_order) in
      table_lines ∙ rw (t.string_is, count, read)

  -- ---- 25

  never_24_and_25 : {A : Type 0} (b : Bool) (a : A) → ((refuse 24 unless b) >> accepted a) ≡ refused 25 → ⊥
  never_24_and_25 true a e = no_refusal e
  never_24_and_25 false a e = let z : ◌≡◌ {A = ℕ} 24 25 = cc in omega (arith, z)

  whole_25 : (r : Result PairsRead) → whole r ≡ refused 25 → r ≡ refused 25
  whole_25 (refused n) e = cc
  whole_25 (accepted read) e = absurd (never_24_and_25 (is_empty read.rest) read.pairs e)

  -- a count, and after it a product that is not above the one before
  pub record NotAboveAfter : Type 0 where
    pub count : ℕ
    pub rest : List ℕ
    pub count_in_lem : count ≤ 8
    pub string_is : string ≡ number count ++ rest
    pub not_above : NotAboveIn count 0 rest

  pub table_25 : Bytes string → pairs_in string ≡ refused 25 → NotAboveAfter
  table_25 bytes e =
      after_line (refused_as24 (read_value pair_count_range string)) _ (sym table_lines ∙ e)
      (λ n p q. let z : n ≡ 25 = cc in as24_never_25 (read_value pair_count_range string) (q ∙ ap refused z)) λ count p q.
      let is = as24_accepted (read_value pair_count_range string) p in
      let was = value_was pair_count_range string count bytes is in
      record {
        count = count.value;
        rest = count.rest;
        count_in_lem = range_most pair_count_range count.value (value_in_range pair_count_range string count is);
        string_is = was.string_is;
        not_above = refused_25 count.value 0 count.rest was.rest_bytes (whole_25 (read_pairs count.value 0 count.rest) q);
      }

  pub gives_25_after : NotAboveAfter → pairs_in string ≡ refused 25
  gives_25_after o =
      let count = value_back pair_count_range (omega arith) o.count o.rest (range_holds 0 8 o.count (omega arith) o.count_in_lem) in
      table_lines ∙ rw (o.string_is, count, gives_25 o.count 0 o.rest o.not_above)

-- ---- a table is bytes

pair_bytes : (pair : Pair) (i : ℕ) → get_or (pair_string pair) i 0 < 256
unfolding pair_string
pair_bytes pair = append_below (number pair.product) (number pair.rate) (number_bytes pair.product) (number_bytes pair.rate)

pairs_bytes : (pairs : List Pair) (i : ℕ) → get_or (pairs_string pairs) i 0 < 256
unfolding pairs_string
pairs_bytes [] = λ i. omega arith
pairs_bytes (pair ∷ pairs) = append_below (pair_string pair) (pairs_string pairs) (pair_bytes pair) (pairs_bytes pairs)

pub table_bytes : (pairs : List Pair) (i : ℕ) → get_or (table_string pairs) i 0 < 256
unfolding table_string
table_bytes pairs = append_below (number (length pairs)) (pairs_string pairs) (number_bytes (length pairs)) (pairs_bytes pairs)
