-- 25 is given exactly where a product is not above the one before, after pairs in order. Assumes nothing.
use mathlib.Core.Path.{◌≡◌, refl, sym, ap, ◌∙◌}
use mathlib.Core.Bool.{Bool, true, false}
use mathlib.Core.List.{List, [], ◌∷◌, ◌++◌}
use Prim.Native.Nat.{ℕ, zero, suc, ◌+◌, ◌-◌, ◌<◌, ◌≤◌}
use native.Mathlib.Omega.{arith}
use borrow.Author.Tests.{ltb-false}
use lib.Dec.{ltb}
use lib.ListN.{length}
use Rattle.laws.specs.Result.{Result, refused, accepted, ◌>>=◌, ◌>>◌, refuse◌unless◌}
use Rattle.laws.proofs.Results.{after_line, no_refusal, refused_iff}
use Rattle.varint.specs.Number.{number}
use Rattle.volume.specs.Volume.{product_range}
use Rattle.volume.specs.Calls.{ValueRead, read_value}
use Rattle.volume.proofs.Values.{value_in_range, range_holds, range_least, range_most}
use Rattle.volume.proofs.Undo.{Bytes, value_back, value_was}
use Rattle.rates.specs.declared.Pair.{Pair}
use Rattle.rates.specs.Table.{pair_string, pairs_string, InOrder, last_product}
use Rattle.rates.specs.Calls.{rate_range, refused_as24, PairRead, read_pair, read_pairs}
use Rattle.rates.proofs.Pairs.{as24_accepted, pair_of, pair_lines, not_above, pair_in_order, joined, pairs_zero, pairs_suc}
use Rattle.rates.proofs.Strings.{pairs_before, pairs_back, pair_was}

-- fewer than n pairs in order, and then a product that is not above the one before
pub record NotAboveIn (n last : ℕ) (string : List ℕ) : Type 0 where
  pub before : List Pair
  pub product : ℕ
  pub rest : List ℕ
  pub string_is : string ≡ pairs_string before ++ (number product ++ rest)
  pub fewer : length before < n
  pub in_order : InOrder last before
  pub product_in : (1 ≤ product) × (product ≤ 8)
  pub not_above : product ≤ last_product last before

pub as24_never_25 : {A : Type 0} (r : Result A) → refused_as24 r ≡ refused 25 → ⊥
as24_never_25 (refused n) e = let z : ◌≡◌ {A = ℕ} 24 25 = cc in omega (arith, z)
as24_never_25 (accepted a) e = no_refusal e

-- a product that is refused with 25 is one that is not above the one before
above_25 : (t : Bool) {A : Type 0} (r : Result A) → (r ≡ refused 25 → ⊥) → ((refuse 25 unless t) >> r) ≡ refused 25 → t ≡ false
above_25 true r h e = absurd (h e)
above_25 false r h e = refl

rate_25 : (product : ValueRead) (r : Result ValueRead) → (refused_as24 r >>= λ rate. accepted (pair_of product rate)) ≡ refused 25 → ⊥
rate_25 product r e = as24_never_25 r ((refused_iff (pair_of product) (refused_as24 r) 25).0 e)

pair_25 : (last : ℕ) (string : List ℕ) → read_pair last string ≡ refused 25
    → (product : ValueRead) × (read_value product_range string ≡ accepted product) × (product.value ≤ last)
pair_25 last string e =
    after_line (refused_as24 (read_value product_range string)) _ (sym (pair_lines last string) ∙ e)
    (λ n p q. let z : n ≡ 25 = cc in as24_never_25 (read_value product_range string) (q ∙ ap refused z)) λ product p q.
    let t = above_25 (ltb last product.value) _ (rate_25 product (read_value rate_range product.rest)) q in
    (product, as24_accepted (read_value product_range string) p, ltb-false last product.value t)

-- the first pair, and those after it
pairs_25 : (n last : ℕ) (string : List ℕ) (r : Result PairRead) → read_pair last string ≡ r
    → (r >>= λ first. read_pairs n first.pair.product first.rest >>= λ others. accepted (joined first others)) ≡ refused 25
    → Bytes string → ((last : ℕ) (string : List ℕ) → Bytes string → read_pairs n last string ≡ refused 25 → NotAboveIn n last string)
    → NotAboveIn (suc n) last string
unfolding pairs_string last_product
pairs_25 n last string (refused m) p e bytes others =
    let z : m ≡ 25 = cc in
    let t = pair_25 last string (p ∙ ap refused z) in
    let product = t.0 in
    let range = value_in_range product_range string product t.1 in
    record {
      before = [];
      product = product.value;
      rest = product.rest;
      string_is = (value_was product_range string product bytes t.1).string_is;
      fewer = omega arith;
      in_order = tt;
      product_in = (range_least product_range product.value range, range_most product_range product.value range);
      not_above = t.2;
    }
pairs_25 n last string (accepted first) p e bytes others =
    let was = pair_was last string first bytes p in
    let rest = read_pairs n first.pair.product first.rest in
    let o = others first.pair.product first.rest was.rest_bytes ((refused_iff (joined first) rest 25).0 e) in
    record {
      before = first.pair ∷ o.before;
      product = o.product;
      rest = o.rest;
      string_is =
          was.string_is
          ∙ ap (λ (s : List ℕ). pair_string first.pair ++ s) o.string_is
          ∙ sym (pairs_before first.pair o.before (number o.product ++ o.rest));
      fewer = omega (arith, o.fewer);
      in_order = (pair_in_order last string first p, o.in_order);
      product_in = o.product_in;
      not_above = o.not_above;
    }

pub refused_25 : (n last : ℕ) (string : List ℕ) → Bytes string → read_pairs n last string ≡ refused 25 → NotAboveIn n last string
refused_25 zero last string bytes e = no_refusal (sym (pairs_zero last string) ∙ e)
refused_25 (suc n) last string bytes e =
    pairs_25 n last string (read_pair last string) refl (sym (pairs_suc n last string) ∙ e) bytes (refused_25 n)

pub gives_25 : (n last : ℕ) (string : List ℕ) → NotAboveIn n last string → read_pairs n last string ≡ refused 25
gives_25 n last string o =
    let m : ℕ = n - length o.before - 1 in
    let count : n ≡ length o.before + suc m = omega (arith, o.fewer) in
    let product = range_holds 1 8 o.product o.product_in.0 o.product_in.1 in
    let tail = number o.product ++ o.rest in
    let next = last_product last o.before in
    let here : read_pair next tail ≡ refused 25 =
    not_above next tail _ (value_back product_range (omega arith) o.product o.rest product) o.not_above in
    ap (λ (k : ℕ). read_pairs k last string) count
    ∙ ap (read_pairs (length o.before + suc m) last) o.string_is
    ∙ pairs_back o.before (suc m) last tail o.in_order
    ∙ rw (pairs_suc m next tail, here)
