-- The string of pairs in order is read as these pairs, and what is read as pairs is their string. Assumes nothing.
use mathlib.Core.Path.{◌≡◌, refl, sym, ap, ◌∙◌}
use mathlib.Core.List.{List, [], ◌∷◌, ◌++◌, append_assoc}
use Prim.Native.Nat.{ℕ, zero, suc, ◌+◌}
use native.Mathlib.Nat.{zero-add}
use native.Mathlib.Omega.{arith}
use lib.ListN.{length}
use Rattle.laws.specs.Result.{Result, refused, accepted, ◌>>=◌}
use Rattle.laws.proofs.Results.{block_in_block}
use Rattle.varint.specs.Number.{number}
use Rattle.volume.specs.Volume.{product_range}
use Rattle.volume.proofs.Values.{range_holds}
use Rattle.volume.proofs.Undo.{Bytes, value_back, value_was}
use Rattle.rates.specs.declared.Pair.{Pair}
use Rattle.rates.specs.Table.{pair_string, pairs_string, PairInOrder, InOrder, last_product}
use Rattle.rates.specs.Calls.{rate_range, PairRead, read_pair, PairsRead, read_pairs}
use Rattle.rates.proofs.Pairs.{pair_of, both_numbers, pair_shows, pairs_suc, pairs_first, none_left}

-- ---- what is written is read back

pair_before : (pair : Pair) (rest : List ℕ) → pair_string pair ++ rest ≡ number pair.product ++ (number pair.rate ++ rest)
unfolding pair_string
pair_before pair rest = append_assoc (number pair.product) (number pair.rate) rest

pub pairs_before : (pair : Pair) (pairs : List Pair) (rest : List ℕ)
    → pairs_string (pair ∷ pairs) ++ rest ≡ pair_string pair ++ (pairs_string pairs ++ rest)
unfolding pairs_string
pairs_before pair pairs rest = append_assoc (pair_string pair) (pairs_string pairs) rest

pair_back : (last : ℕ) (pair : Pair) (rest : List ℕ) → PairInOrder last pair
    → read_pair last (pair_string pair ++ rest) ≡ accepted (record { pair = pair; rest = rest })
pair_back last pair rest h =
    let product = range_holds 1 8 pair.product h.product.0 h.product.1 in
    let rate = range_holds 0 65535 pair.rate (omega arith) h.rate in
    rw (pair_before pair rest)
    (both_numbers last (number pair.product ++ (number pair.rate ++ rest)) _
    (value_back product_range (omega arith) pair.product (number pair.rate ++ rest) product) h.above _
    (value_back rate_range (omega arith) pair.rate rest rate))

-- pairs in order before what is read after them
abbrev pub after : List Pair → PairsRead → PairsRead
after pairs others = record { pairs = pairs ++ others.pairs; rest = others.rest }

all_kept : (r : Result PairsRead) → (r >>= λ others. accepted (after [] others)) ≡ r
all_kept (refused n) = refl
all_kept (accepted others) = refl

pub pairs_back : (pairs : List Pair) (more last : ℕ) (rest : List ℕ) → InOrder last pairs
    → read_pairs (length pairs + more) last (pairs_string pairs ++ rest)
    ≡ (read_pairs more (last_product last pairs) rest >>= λ others. accepted (after pairs others))
unfolding pairs_string last_product
pairs_back [] more last rest h = rw zero-add (sym (all_kept (read_pairs more last rest)))
pairs_back (pair ∷ pairs) more last rest h =
    let n : length (pair ∷ pairs) + more ≡ suc (length pairs + more) = omega arith in
    let others = read_pairs more (last_product pair.product pairs) rest in
    ap (λ (k : ℕ). read_pairs k last (pairs_string (pair ∷ pairs) ++ rest)) n
    ∙ pairs_suc (length pairs + more) last (pairs_string (pair ∷ pairs) ++ rest)
    ∙ rw (pairs_before pair pairs rest, pair_back last pair (pairs_string pairs ++ rest) h.0, pairs_back pairs more pair.product rest h.1)
    (block_in_block others _ _)

-- ---- what is read is what was written

pub record PairsWere (n : ℕ) (string : List ℕ) (found : PairsRead) : Type 0 where
  pub count_is : length found.pairs ≡ n
  pub string_is : string ≡ pairs_string found.pairs ++ found.rest

pub record PairWas (string : List ℕ) (found : PairRead) : Type 0 where
  pub string_is : string ≡ pair_string found.pair ++ found.rest
  pub rest_bytes : Bytes found.rest

pub pair_was : (last : ℕ) (string : List ℕ) (found : PairRead) → Bytes string → read_pair last string ≡ accepted found → PairWas string found
pair_was last string found bytes e =
    let s = pair_shows last string found e in
    let p = value_was product_range string s.product bytes s.is_product in
    let r = value_was rate_range s.product.rest s.rate p.rest_bytes s.is_rate in
    rw s.found_is
    (record {
      string_is = p.string_is ∙ rw r.string_is (sym (pair_before (pair_of s.product s.rate).pair s.rate.rest));
      rest_bytes = r.rest_bytes;
    })

pub pairs_were : (n last : ℕ) (string : List ℕ) (found : PairsRead) → Bytes string → read_pairs n last string ≡ accepted found
    → PairsWere n string found
unfolding pairs_string
pairs_were zero last string found bytes e = rw (none_left last string found e) (record { count_is = refl; string_is = refl })
pairs_were (suc n) last string found bytes e =
    let f = pairs_first n last string found e in
    let first = pair_was last string f.first bytes f.first_is in
    let others = pairs_were n f.first.pair.product f.first.rest f.others first.rest_bytes f.others_are in
    rw f.both
    (record {
      count_is = ap suc others.count_is;
      string_is = first.string_is ∙ rw others.string_is (sym (pairs_before f.first.pair f.others.pairs f.others.rest));
    })
