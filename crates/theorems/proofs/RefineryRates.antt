-- The propositions on the refinery's own rates, from the laws of the crate `rates` and what is shown of the duty under any table. Assumes nothing.
use mathlib.Core.Path.{◌≡◌, refl, sym, ap, ◌∙◌}
use mathlib.Core.List.{List, [], ◌∷◌, ◌++◌, Memᴰ}
use mathlib.Core.Logic.{◌↔◌}
use Prim.Native.Nat.{ℕ, suc, ◌+◌, ◌≤◌}
use native.Mathlib.Omega.{arith}
use lib.ListN.{length}
use Rattle.laws.specs.Result.{Result, refused, accepted, Outcome, ◌>>=◌}
use Rattle.laws.proofs.Results.{refused_iff, no_refusal, accepted_one}
use Rattle.word.specs.Bytes.{AllBytes}
use Rattle.varint.specs.Number.{number, read_groups}
use Rattle.volume.specs.Calls.{read_value}
use Rattle.rates.specs.declared.Pair.{Pair}
use Rattle.rates.specs.Rates.{our_rates, rate_of}
use Rattle.rates.specs.Table.{table_string, InOrder, Table, rate_among, rates_of}
use Rattle.rates.specs.Calls.{read_pair, read_pairs, pairs_in, load_rates, load_rates_call}
use Rattle.rates.proofs.Filled.{rates_length}
use Rattle.rates.proofs.Tables.{table_in_order, table_was, table_back, table_25, gives_25_after, table_bytes}
use Rattle.rates.proofs.Among.{each_rate, rate_in_table, pair_above, among_pair, among_none, among_most}
use Rattle.duty.specs.Duty.{entry_duty}
use Rattle.theorems.specs.RefineryRates.{NotAbove, in_use_after, NoneLoads, RefineryRates}
use Rattle.theorems.proofs.Within.{Within, by_one, first, after, rates_within}
use Rattle.theorems.proofs.ComponentDuty.{duty_most, greatest_owe}
use Rattle.theorems.proofs.ReadingEffect.{reading_effect}

-- ── which strings load ──

-- the last line of loading
gives : (r : Result (List Pair)) (rates : List ℕ) → (r >>= λ pairs. accepted (rates_of pairs)) ≡ accepted rates
    → (pairs : List Pair) × (r ≡ accepted pairs) × (rates_of pairs ≡ rates)
gives (refused n) rates e = no_refusal (sym e)
gives (accepted pairs) rates e = (pairs, refl, accepted_one refl e)

loads_pairs : (string rates : List ℕ) → load_rates string ≡ accepted rates
    → (pairs : List Pair) × (pairs_in string ≡ accepted pairs) × (rates_of pairs ≡ rates)
unfolding load_rates
loads_pairs string rates e = gives (pairs_in string) rates e

pairs_load : (string : List ℕ) (pairs : List Pair) → Table string pairs → load_rates string ≡ accepted (rates_of pairs)
unfolding load_rates
pairs_load string pairs t = rw (table_back string pairs t)

loads_iff : (string rates : List ℕ) → AllBytes string
    → (load_rates string ≡ accepted rates) ↔ ((pairs : List Pair) × Table string pairs × (rates_of pairs ≡ rates))
loads_iff string rates bytes = (
  (λ e. let p = loads_pairs string rates e in (p.0, table_was string p.0 bytes p.1, p.2)),
  (λ t. pairs_load string t.0 t.1 ∙ ap accepted t.2),
)

-- ── the rates ──

module _ (string rates : List ℕ) (pairs : List Pair) where
  -- the rates of a table that loads are those of its pairs
  rates_are : Table string pairs → load_rates string ≡ accepted rates → (product : ℕ) → rate_of rates product ≡ rate_of (rates_of pairs) product
  rates_are t e product = ap (λ (r : List ℕ). rate_of r product) (accepted_one e (pairs_load string pairs t))

  with_pair : (pair : Pair) → Table string pairs → load_rates string ≡ accepted rates → Memᴰ pair pairs → rate_of rates pair.product ≡ pair.rate
  with_pair pair t e m =
      let a = pair_above 0 pairs pair t.in_order m in
      rates_are t e pair.product ∙ rate_in_table pairs pair.product a.1 a.2 ∙ among_pair 0 pairs pair t.in_order m

  without_pair : (product : ℕ) → Table string pairs → load_rates string ≡ accepted rates
      → ((pair : Pair) → Memᴰ pair pairs → pair.product ≡ product → ⊥) → rate_of rates product ≡ 0
  without_pair product t e h = rates_are t e product ∙ each_rate (λ rate. rate ≡ 0) pairs product refl (among_none pairs product h)

rates_in : (string rates : List ℕ) → load_rates string ≡ accepted rates → (length rates ≡ 8) × ((product : ℕ) → rate_of rates product ≤ 65535)
rates_in string rates e =
    let p = loads_pairs string rates e in
    let pairs = p.0 in
    let h = table_in_order string pairs p.1 in
    rw (sym p.2) (rates_length pairs, λ product. each_rate (λ rate. rate ≤ 65535) pairs product (omega arith) (among_most 0 pairs product h))

-- pairs of products from one on, one after the other
abbrev pairs_from : (product : ℕ) (rates : List ℕ) → List Pair
pairs_from product [] = []
pairs_from product (rate ∷ rates) = record { product = product; rate = rate } ∷ pairs_from (suc product) rates

abbrev AllAtMost : List ℕ → Type 0
AllAtMost [] = Unit {0}
AllAtMost (rate ∷ rates) = (rate ≤ 65535) × AllAtMost rates

from_in_order : (last : ℕ) (rates : List ℕ) → last + length rates ≤ 8 → AllAtMost rates → InOrder last (pairs_from (suc last) rates)
from_in_order last [] l h = tt
from_in_order last (rate ∷ rates) l h =
    (record { product = (omega arith, omega (arith, l)); above = omega arith; rate = h.0 }, from_in_order (suc last) rates (omega (arith, l)) h.1)

from_rates : (a b c d e f g h : ℕ) → rates_of (pairs_from 1 (a ∷ b ∷ c ∷ d ∷ e ∷ f ∷ g ∷ h ∷ [])) ≡ a ∷ b ∷ c ∷ d ∷ e ∷ f ∷ g ∷ h ∷ []
unfolding rates_of rate_among
from_rates a b c d e f g h = refl

every_table : (a b c d e f g h : ℕ) → a ≤ 65535 → b ≤ 65535 → c ≤ 65535 → d ≤ 65535 → e ≤ 65535 → f ≤ 65535 → g ≤ 65535 → h ≤ 65535
    → (string : List ℕ) × AllBytes string × (load_rates string ≡ accepted (a ∷ b ∷ c ∷ d ∷ e ∷ f ∷ g ∷ h ∷ []))
every_table a b c d e f g h i j k l m n o p =
    let rates = a ∷ b ∷ c ∷ d ∷ e ∷ f ∷ g ∷ h ∷ [] in
    let pairs = pairs_from 1 rates in
    let order = from_in_order 0 rates (omega arith) (i, (j, (k, (l, (m, (n, (o, (p, tt)))))))) in (
      table_string pairs,
      table_bytes pairs,
      pairs_load (table_string pairs) pairs (record { count = omega arith; in_order = order; string_is = refl })
          ∙ ap accepted (from_rates a b c d e f g h),
    )

-- ── refusals ──

loads_25 : (string : List ℕ) → (load_rates string ≡ refused 25) ↔ (pairs_in string ≡ refused 25)
unfolding load_rates
loads_25 string = refused_iff rates_of (pairs_in string) 25

refused_25 : (string : List ℕ) → AllBytes string → (load_rates string ≡ refused 25) ↔ NotAbove string
refused_25 string bytes = (
  (λ e.
      let a = table_25 string bytes ((loads_25 string).0 e) in
      let o = a.not_above in
      record {
        count = a.count;
        before = o.before;
        product = o.product;
        rest = o.rest;
        string_is = a.string_is ∙ ap (λ (s : List ℕ). number a.count ++ s) o.string_is;
        count_in_lem = a.count_in_lem;
        in_order = o.in_order;
        fewer = o.fewer;
        product_in = o.product_in;
        not_above = o.not_above;
      }),
  (λ o.
      (loads_25 string).1
      (gives_25_after string
      (record {
        count = o.count;
        rest = _;
        count_in_lem = o.count_in_lem;
        string_is = o.string_is;
        not_above = record {
          before = o.before;
          product = o.product;
          rest = o.rest;
          string_is = refl;
          fewer = o.fewer;
          in_order = o.in_order;
          product_in = o.product_in;
          not_above = o.not_above;
        };
      }))),
)

never_both : {A : Type 0} (r : Result A) → r ≡ refused 24 → r ≡ refused 25 → ⊥
never_both r e q = let z : ◌≡◌ {A = ℕ} 24 25 = cc in omega (arith, z)

one_of_two : {C : Type 0} (n : ℕ) → Memᴰ n (24 ∷ 25 ∷ []) → (n ≡ 24 → C) → (n ≡ 25 → C) → C
one_of_two n (Memᴰ.head e) p q = p e
one_of_two n (Memᴰ.tail (Memᴰ.head e)) p q = q e
one_of_two n (Memᴰ.tail (Memᴰ.tail e)) p q = elim e [ ]

only_24 : {A : Type 0} (r : Result A) → Within (24 ∷ 25 ∷ []) r → (r ≡ refused 25 → ⊥) → ((a : A) → r ≡ accepted a → ⊥) → r ≡ refused 24
only_24 (refused n) (by_one m) h k = one_of_two n m (λ e. ap refused e) (λ e. absurd (h (ap refused e)))
only_24 (accepted a) w h k = absurd (k a refl)

refused_24 : (string : List ℕ) → AllBytes string
    → (load_rates string ≡ refused 24) ↔ ((NotAbove string → ⊥) × ((pairs : List Pair) → Table string pairs → ⊥))
refused_24 string bytes = (
  (λ e. (
    (λ o. never_both (load_rates string) e ((refused_25 string bytes).1 o)),
    (λ pairs t. no_refusal (sym (pairs_load string pairs t) ∙ e)),
  )),
  (λ h.
      only_24 (load_rates string) (rates_within first (after first) string) (λ e. h.0 ((refused_25 string bytes).0 e))
      (λ rates e. let t = (loads_iff string rates bytes).0 e in h.1 t.0 t.1)),
)

-- ── the table in use ──

module _ (inUse string : List ℕ) where
  replaces : (rates : List ℕ) → load_rates string ≡ accepted rates → load_rates_call inUse string ≡ record { refusal = 0; value = rates }
  unfolding load_rates_call
  replaces rates e = rw e

  stays : (n : ℕ) → load_rates string ≡ refused n → load_rates_call inUse string ≡ record { refusal = n; value = inUse }
  unfolding load_rates_call
  stays n e = rw e

in_use_stays : (inUse : List ℕ) (strings : List (List ℕ)) → NoneLoads strings → in_use_after inUse strings ≡ inUse
unfolding in_use_after
in_use_stays inUse [] h = refl
in_use_stays inUse (string ∷ strings) h = rw (stays inUse string h.0.0 h.0.1) (in_use_stays inUse strings h.1)

in_use_last : (inUse string rates : List ℕ) (before after : List (List ℕ)) → load_rates string ≡ accepted rates → NoneLoads after
    → in_use_after inUse (before ++ (string ∷ after)) ≡ rates
unfolding in_use_after
in_use_last inUse string rates [] after e h =
    ap (λ (o : Outcome (List ℕ)). in_use_after o.value after) (replaces inUse string rates e) ∙ in_use_stays rates after h
in_use_last inUse string rates (other ∷ before) after e h = in_use_last (load_rates_call inUse other).value string rates before after e h

pub refinery_rates : RefineryRates
unfolding load_rates pairs_in read_pairs read_pair read_value read_groups rates_of rate_among entry_duty
refinery_rates = record {
  loads_iff = loads_iff;
  with_pair = with_pair;
  without_pair = without_pair;
  rates_in = rates_in;
  every_table = every_table;
  refused_25 = refused_25;
  refused_24 = refused_24;
  replaces = replaces;
  stays = stays;
  in_use_last = in_use_last;
  in_use_stays = in_use_stays;
  moves_at_most = λ string rates e. reading_effect.moves_at_most rates;
  in_use_moves = λ strings. reading_effect.moves_at_most (in_use_after our_rates strings);
  at_most = λ rates string cents h e. duty_most 65535 rates h string cents e;
  reached = (65535 ∷ 0 ∷ 0 ∷ 0 ∷ 0 ∷ 0 ∷ 0 ∷ 0 ∷ [], refl, greatest_owe (65535 ∷ 0 ∷ 0 ∷ 0 ∷ 0 ∷ 0 ∷ 0 ∷ 0 ∷ []));
  fits = omega arith;
  no_pairs = refl;
  rate_0 = refl;
  two_pairs = refl;
  same_product = refl;
  count_9 = refl;
  product_0 = refl;
  second_missing = refl;
  rate_missing = refl;
}
