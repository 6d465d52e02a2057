-- A pair from its two numbers, in reading order, and pairs one after the other: what an accepted reading shows. Assumes nothing.
use mathlib.Core.Path.{◌≡◌, refl, sym, ◌∙◌}
use mathlib.Core.List.{List, [], ◌∷◌}
use Prim.Native.Nat.{ℕ, zero, suc, ◌<◌, ◌≤◌}
use borrow.Author.Tests.{lt-ltb, le-ltb, ltb-true}
use lib.Dec.{ltb}
use Rattle.laws.specs.Result.{Result, refused, accepted, ◌>>=◌, ◌>>◌, refuse◌unless◌}
use Rattle.laws.proofs.Results.{after_line, after_unless, no_refusal, accepted_one}
use Rattle.volume.specs.Volume.{product_range}
use Rattle.volume.specs.Calls.{ValueRead, read_value}
use Rattle.volume.proofs.Values.{value_in_range, range_least, range_most}
use Rattle.rates.specs.Table.{PairInOrder, InOrder}
use Rattle.rates.specs.Calls.{rate_range, refused_as24, PairRead, read_pair, PairsRead, read_pairs}

-- what is accepted after all
pub as24_accepted : {A : Type 0} (r : Result A) {a : A} → refused_as24 r ≡ accepted a → r ≡ accepted a
as24_accepted (refused n) e = no_refusal (sym e)
as24_accepted (accepted b) e = e

-- the pair of two numbers that were read
abbrev pub pair_of : (product rate : ValueRead) → PairRead
pair_of product rate = record { pair = record { product = product.value; rate = rate.value }; rest = rate.rest }

module _ (last : ℕ) (string : List ℕ) where
  pub pair_lines : read_pair last string
      ≡ (refused_as24 (read_value product_range string) >>= λ product. (refuse 25 unless ltb last product.value)
      >> (refused_as24 (read_value rate_range product.rest) >>= λ rate. accepted (pair_of product rate)))
  unfolding read_pair
  pair_lines = refl

  -- a product that is not above the one before, or both numbers
  module _ (product : ValueRead) (is_product : read_value product_range string ≡ accepted product) where
    pub not_above : product.value ≤ last → read_pair last string ≡ refused 25
    not_above l = pair_lines ∙ rw (is_product, le-ltb last product.value l)

    module _ (above : last < product.value) where
      pub both_numbers : (rate : ValueRead) → read_value rate_range product.rest ≡ accepted rate
          → read_pair last string ≡ accepted (pair_of product rate)
      both_numbers rate e = pair_lines ∙ rw (is_product, lt-ltb last product.value above, e)

  -- what a pair that is accepted shows of its lines
  pub record PairShows (found : PairRead) : Type 0 where
    pub product : ValueRead
    pub rate : ValueRead
    pub is_product : read_value product_range string ≡ accepted product
    pub above : last < product.value
    pub is_rate : read_value rate_range product.rest ≡ accepted rate
    pub found_is : found ≡ pair_of product rate

  pub pair_shows : (found : PairRead) → read_pair last string ≡ accepted found → PairShows found
  pair_shows found e =
      after_line (refused_as24 (read_value product_range string)) _ (sym pair_lines ∙ e) (λ n q _. no_refusal q) λ product p q.
      after_unless 25 (ltb last product.value) _ q no_refusal λ t u.
      after_line (refused_as24 (read_value rate_range product.rest)) _ u (λ n q _. no_refusal q) λ rate r v.
      record {
        product = product;
        rate = rate;
        is_product = as24_accepted (read_value product_range string) p;
        above = ltb-true last product.value t;
        is_rate = as24_accepted (read_value rate_range product.rest) r;
        found_is = sym (accepted_one refl v);
      }

  pub pair_in_order : (found : PairRead) → read_pair last string ≡ accepted found → PairInOrder last found.pair
  pair_in_order found e =
      let s = pair_shows found e in
      let p = value_in_range product_range string s.product s.is_product in
      let r = value_in_range rate_range s.product.rest s.rate s.is_rate in
      rw s.found_is
      (record {
        product = (range_least product_range s.product.value p, range_most product_range s.product.value p);
        above = s.above;
        rate = range_most rate_range s.rate.value r;
      })

-- ---- one after the other

-- the first pair before others
abbrev pub joined : PairRead → PairsRead → PairsRead
joined first others = record { pairs = first.pair ∷ others.pairs; rest = others.rest }

pub pairs_zero : (last : ℕ) (string : List ℕ) → read_pairs 0 last string ≡ accepted (record { pairs = []; rest = string })
unfolding read_pairs
pairs_zero last string = refl

pub pairs_suc : (n last : ℕ) (string : List ℕ)
    → read_pairs (suc n) last string
    ≡ (read_pair last string >>= λ first. read_pairs n first.pair.product first.rest >>= λ others. accepted (joined first others))
unfolding read_pairs
pairs_suc n last string = refl

-- the first of n + 1 pairs, and the others
pub record First (n last : ℕ) (string : List ℕ) (found : PairsRead) : Type 0 where
  pub first : PairRead
  pub others : PairsRead
  pub first_is : read_pair last string ≡ accepted first
  pub others_are : read_pairs n first.pair.product first.rest ≡ accepted others
  pub both : found ≡ joined first others

pub pairs_first : (n last : ℕ) (string : List ℕ) (found : PairsRead) → read_pairs (suc n) last string ≡ accepted found → First n last string found
pairs_first n last string found e =
    after_line (read_pair last string) _ (sym (pairs_suc n last string) ∙ e) (λ _ q _. no_refusal q) λ first p q.
    after_line (read_pairs n first.pair.product first.rest) _ q (λ _ r _. no_refusal r) λ others r t.
    record { first = first; others = others; first_is = p; others_are = r; both = sym (accepted_one refl t) }

pub none_left : (last : ℕ) (string : List ℕ) (found : PairsRead) → read_pairs 0 last string ≡ accepted found
    → found ≡ record { pairs = []; rest = string }
none_left last string found e = accepted_one e (pairs_zero last string)

pub pairs_in_order : (n last : ℕ) (string : List ℕ) (found : PairsRead) → read_pairs n last string ≡ accepted found → InOrder last found.pairs
pairs_in_order zero last string found e = rw (none_left last string found e) tt
pairs_in_order (suc n) last string found e =
    let f = pairs_first n last string found e in
    rw f.both
    (pair_in_order last string f.first f.first_is, pairs_in_order n f.first.pair.product f.first.rest f.others f.others_are)
