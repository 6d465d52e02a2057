-- What the loop over the pairs of a table keeps, and the answer that it leads to. Assumes nothing.
use mathlib.Core.Path.{◌≡◌, refl, sym, ◌∙◌}
use mathlib.Core.Bool.{Bool, true, false}
use mathlib.Core.List.{List}
use Prim.Native.Nat.{ℕ, suc, ◌+◌, ◌-◌, ◌<◌, ◌≤◌}
use lib.ListN.{length, drop, set, replicate}
use Rattle.laws.specs.Result.{Result, refused, accepted, ◌>>=◌, ◌>>◌, refuse◌unless◌}
use Rattle.laws.proofs.Results.{block_in_block, same_lines}
use Rattle.laws.proofs.Turns as Turns
use Rattle.volume.specs.Calls.{read_value, is_empty}
use Rattle.volume.proofs.EntryByEntry.{at_end, before_end}
use Rattle.rates.specs.declared.Pair.{Pair}
use Rattle.rates.specs.Table.{rates_of}
use Rattle.rates.specs.Calls.{pair_count_range, refused_as24, PairRead, read_pair, PairsRead, read_pairs, pairs_in, load_rates, load_rates_call, rates_left}
use Rattle.rates.proofs.Pairs.{pairs_zero, pairs_suc, pairs_in_order}
use Rattle.rates.proofs.Filled.{filled, filled_rates}

-- what a function gives for n pairs with nothing after them, or the refusal
unfoldable pub pairs_only : (value : List Pair → List ℕ) (n last : ℕ) (string : List ℕ) → Result (List ℕ)
pairs_only value n last string = do
  read ← read_pairs n last string
  refuse 24 unless is_empty read.rest
  accepted (value read.pairs)

-- where the loop has come: the product of the pair before, the bytes that are left, and the table so far
pub record Left : Type 0 where
  pub last : ℕ
  pub rest : List ℕ
  pub cents : List ℕ

abbrev pub turn : Left → Result Left
turn s = do
  first ← read_pair s.last s.rest
  accepted (record { last = first.pair.product; rest = first.rest; cents = set s.cents (first.pair.product - 1) first.pair.rate })

abbrev pub all : ℕ → Left → Result (List ℕ)
all n s = pairs_only (filled s.cents) n s.last s.rest

all_zero : (s : Left) → all 0 s ≡ ((refuse 24 unless is_empty s.rest) >> accepted s.cents)
unfolding pairs_only
all_zero s = rw (pairs_zero s.last s.rest)

all_suc : (n : ℕ) (s : Left) → all (suc n) s ≡ (turn s >>= all n)
unfolding pairs_only
all_suc n s =
    let read = read_pair s.last s.rest in
    rw (pairs_suc n s.last s.rest)
    (block_in_block read _ _
    ∙ same_lines read _ _ (λ first. block_in_block (read_pairs n first.pair.product first.rest) _ _)
    ∙ sym (block_in_block read _ (all n)))

-- the table before the first pair
abbrev pub at_first : List ℕ → Left
at_first string = record { last = 0; rest = string; cents = replicate 8 0 }

module _ (n : ℕ) (whole : List ℕ) where
  abbrev pub Filling : (k last : ℕ) (rest cents : List ℕ) → Type 0
  Filling k last rest cents = all n (at_first whole) ≡ all (n - k) (record { last = last; rest = rest; cents = cents })

  module _ (k last : ℕ) (rest cents : List ℕ) (come : Filling k last rest cents) where
    pub filling_turns : {first : PairRead} → k < n → read_pair last rest ≡ accepted first
        → Filling (k + 1) first.pair.product first.rest (set cents (first.pair.product - 1) first.pair.rate)
    filling_turns l e = Turns.result_turns turn all all_suc n (at_first whole) k _ come l (rw e)

    filling_refused : {m : ℕ} → k < n → read_pair last rest ≡ refused m → all n (at_first whole) ≡ refused m
    filling_refused l e = Turns.result_refused turn all all_suc n (at_first whole) k _ come l (rw e)

    filling_ends : n ≤ k → all n (at_first whole) ≡ ((refuse 24 unless is_empty rest) >> accepted cents)
    filling_ends l = Turns.result_ends turn all all_suc n (at_first whole) k _ come l ∙ all_zero (record { last = last; rest = rest; cents = cents })

-- ---- the answer

-- the rates of pairs that are read are those that the table is filled with
same_filled : (n : ℕ) (string : List ℕ) (r : Result PairsRead) → read_pairs n 0 string ≡ r
    → (r >>= λ read. (refuse 24 unless is_empty read.rest) >> accepted (rates_of read.pairs))
    ≡ (r >>= λ read. (refuse 24 unless is_empty read.rest) >> accepted (filled (replicate 8 0) read.pairs))
same_filled n string (refused m) e = refl
same_filled n string (accepted read) e = rw (filled_rates 0 read.pairs (pairs_in_order n 0 string read e))

last_line : (b : Bool) (pairs : List Pair)
    → ((refuse 24 unless b) >> accepted pairs >>= λ found. accepted (rates_of found)) ≡ ((refuse 24 unless b) >> accepted (rates_of pairs))
last_line true pairs = refl
last_line false pairs = refl

module _ (string : List ℕ) where
  load_lines : load_rates string ≡ (refused_as24 (read_value pair_count_range string) >>= λ count. all count.value (at_first count.rest))
  unfolding load_rates pairs_in pairs_only
  load_lines =
      let count = refused_as24 (read_value pair_count_range string) in
      block_in_block count _ _
      ∙ same_lines count _ _ (λ c.
      block_in_block (read_pairs c.value 0 c.rest) _ _
      ∙ same_lines (read_pairs c.value 0 c.rest) _ _ (λ read. last_line (is_empty read.rest) read.pairs)
      ∙ same_filled c.value c.rest (read_pairs c.value 0 c.rest) refl)

  pub left_refused : (m : ℕ) (inUse : List ℕ) → load_rates string ≡ refused m → rates_left m inUse ≡ load_rates_call inUse string
  unfolding load_rates_call
  left_refused m inUse q = rw q

  pub left_accepted : (inUse loaded : List ℕ) → load_rates string ≡ accepted loaded → rates_left 0 loaded ≡ load_rates_call inUse string
  unfolding load_rates_call
  left_accepted inUse loaded q = rw q

  pub no_count : {m : ℕ} → refused m ≡ refused_as24 (read_value pair_count_range string) → load_rates string ≡ refused m
  no_count e = load_lines ∙ rw (sym e)

  module _ (n first : ℕ) (number : accepted (record { value = n; rest = drop first string }) ≡ refused_as24 (read_value pair_count_range string)) where
    from_pairs : {r : Result (List ℕ)} → all n (at_first (drop first string)) ≡ r → load_rates string ≡ r
    from_pairs e = load_lines ∙ rw (sym number, e)

    module _ (k last at : ℕ) (cents : List ℕ) (come : Filling n (drop first string) k last (drop at string) cents) where
      pub no_pair : {m : ℕ} → k < n → read_pair last (drop at string) ≡ refused m → load_rates string ≡ refused m
      no_pair l e = from_pairs (filling_refused n (drop first string) k last (drop at string) cents come l e)

      pub bytes_left_over : n ≤ k → at < length string → load_rates string ≡ refused 24
      bytes_left_over l h = from_pairs (filling_ends n (drop first string) k last (drop at string) cents come l ∙ rw (before_end string at h))

      pub nothing_left_over : n ≤ k → at ≡ length string → load_rates string ≡ accepted cents
      nothing_left_over l h = from_pairs (filling_ends n (drop first string) k last (drop at string) cents come l ∙ rw (at_end string at h))
