-- What document 02 (e) says of the duty. Assumes nothing.
use mathlib.Core.Path.{◌≡◌, refl, sym, ap, ◌∙◌}
use mathlib.Core.Bool.{true}
use mathlib.Core.List.{List, [], ◌∷◌, ◌++◌}
use mathlib.Core.Logic.{◌↔◌}
use Prim.Native.Nat.{ℕ, zero, suc, ◌+◌, ◌*◌, ◌/◌, ◌≤◌, ◌<◌}
use native.Mathlib.Nat.{add-zero, zero-add, zero-mul, mul-le-mul_right}
use native.Mathlib.Omega.{arith}
use lib.ListN.{length, replicate, length-replicate}
use Rattle.laws.specs.Result.{Result, refused, accepted, ◌>>=◌}
use Rattle.laws.proofs.Results.{refused_iff, no_refusal, accepted_one}
use Rattle.word.specs.Bytes.{AllBytes}
use Rattle.varint.specs.Number.{read_groups}
use Rattle.volume.specs.declared.Entry.{Entry}
use Rattle.volume.specs.Volume.{count_range, entry_in_range, entries_in_range, volume_string}
use Rattle.volume.specs.Calls.{read_value, read_entry, read_entries, entries_in, read_volume}
use Rattle.volume.proofs.Values.{range_holds, range_most}
use Rattle.volume.proofs.Ranges.{volume_in_range}
use Rattle.volume.proofs.Undo.{volume_back}
use Rattle.rates.specs.Rates.{our_rates, rate_of}
use Rattle.duty.specs.Duty.{entry_duty, entries_duty}
use Rattle.duty.specs.Calls.{volume_duty}
use Rattle.duty.proofs.Most.{RatesAtMost, entries_most, our_rates_most}
use Rattle.theorems.specs.ShiftVolume.{Volume}
use Rattle.theorems.specs.ComponentDuty.{most_duty, ComponentDuty}
use Rattle.theorems.proofs.Within.{first, after, volume_within, within_not}
use Rattle.theorems.proofs.ShiftVolume.{shift_volume}

-- ── an entry ──

-- a quotient that is cut down
cut_down : (amount cents : ℕ) → (amount / 10000 ≡ cents) ↔ ((10000 * cents ≤ amount) × (amount < 10000 * (cents + 1)))
cut_down amount cents = ((λ e. (omega (arith, e), omega (arith, e))), (λ h. omega (arith, h.0, h.1)))

entry_owes : (rates : List ℕ) (e : Entry) (cents : ℕ)
    → (entry_duty rates e ≡ cents)
    ↔ ((10000 * cents ≤ e.litres * e.ratio * rate_of rates e.product) × (e.litres * e.ratio * rate_of rates e.product < 10000 * (cents + 1)))
unfolding entry_duty
entry_owes rates e cents = cut_down (e.litres * e.ratio * rate_of rates e.product) cents

-- ── entries ──

one_entry : (rates : List ℕ) (e : Entry) → entries_duty rates (e ∷ []) ≡ entry_duty rates e
unfolding entries_duty
one_entry rates e = add-zero (entry_duty rates e)

sums : (rates : List ℕ) (entries others : List Entry) → entries_duty rates (entries ++ others) ≡ entries_duty rates entries + entries_duty rates others
unfolding entries_duty
sums rates [] others = sym (zero-add (entries_duty rates others))
sums rates (e ∷ entries) others = omega (arith, sums rates entries others)

-- ── a volume ──

module _ (rates : List ℕ) where
  -- the last line of the call
  owes : (r : Result (List Entry)) (cents : ℕ) → (r >>= λ entries. accepted (entries_duty rates entries)) ≡ accepted cents
      → (entries : List Entry) × (r ≡ accepted entries) × (entries_duty rates entries ≡ cents)
  owes (refused n) cents e = no_refusal (sym e)
  owes (accepted entries) cents e = (entries, refl, accepted_one refl e)

  duty_shows : (string : List ℕ) (cents : ℕ) → volume_duty rates string ≡ accepted cents
      → (entries : List Entry) × (entries_in string ≡ accepted entries) × (entries_duty rates entries ≡ cents)
  unfolding volume_duty
  duty_shows string cents e = owes (entries_in string) cents e

  pub duty_is : (string : List ℕ) (entries : List Entry) → entries_in string ≡ accepted entries → volume_duty rates string ≡ accepted (entries_duty rates entries)
  unfolding volume_duty
  duty_is string entries e = rw e

  volume_owes : (string : List ℕ) (cents : ℕ) → AllBytes string
      → (volume_duty rates string ≡ accepted cents) ↔ ((entries : List Entry) × Volume string entries × (entries_duty rates entries ≡ cents))
  volume_owes string cents bytes = (
    (λ e. let s = duty_shows string cents e in (s.0, (shift_volume.read_iff string s.0 bytes).0 s.1, s.2)),
    (λ t. duty_is string t.0 ((shift_volume.read_iff string t.0 bytes).1 t.1) ∙ ap accepted t.2),
  )

-- ── the example ──

example : (minutes : ℕ) → entry_duty our_rates (record { minutes = minutes; litres = 1000; ratio = 525; product = 4 }) ≡ 3150
unfolding entry_duty
example minutes = refl

example_volume : volume_duty our_rates (0x01 ∷ 0x00 ∷ 0xE8 ∷ 0x07 ∷ 0x8D ∷ 0x04 ∷ 0x04 ∷ []) ≡ accepted 3150
unfolding volume_duty entries_in read_entries read_entry read_value read_groups entries_duty entry_duty
example_volume = refl

-- ── refusals ──

module _ (rates string : List ℕ) where
  as_entries : (n : ℕ) → (volume_duty rates string ≡ refused n) ↔ (entries_in string ≡ refused n)
  unfolding volume_duty
  as_entries n = refused_iff (entries_duty rates) (entries_in string) n

  as_reading : (list : List ℕ) (n : ℕ) → (n ≡ 8 → ⊥) → (volume_duty rates string ≡ refused n) ↔ (read_volume string list ≡ refused n)
  as_reading list n h = (
    (λ e. (shift_volume.read_refused string list n h).1 ((as_entries n).0 e)),
    (λ e. (as_entries n).1 ((shift_volume.read_refused string list n h).0 e)),
  )

  never_8 : volume_duty rates string ≡ refused 8 → ⊥
  never_8 e =
      within_not 8 (16 ∷ 14 ∷ 15 ∷ []) (entries_in string) (volume_within first (after first) (after (after first)) string) refl ((as_entries 8).0 e)

  accepted_where_8 : (list : List ℕ) → read_volume string list ≡ refused 8 → (cents : ℕ) × (volume_duty rates string ≡ accepted cents)
  accepted_where_8 list e =
      let t = (shift_volume.read_8 string list).0 e in (entries_duty rates t.0, duty_is rates string t.0 t.1)

-- ── the greatest duty ──

-- under rates that are at most `most`
pub duty_most : (most : ℕ) (rates : List ℕ) → RatesAtMost most rates
    → (string : List ℕ) (cents : ℕ) → volume_duty rates string ≡ accepted cents → cents ≤ 2000 * (100000 * most)
duty_most most rates h string cents e =
    let s = duty_shows rates string cents e in
    let r = volume_in_range string s.0 s.1 in
    let all = entries_most most rates h s.0 r.in_range_lem in
    let count : length s.0 * (100000 * most) ≤ 2000 * (100000 * most) =
    mul-le-mul_right (100000 * most) (range_most count_range (length s.0) r.count_in_lem) in
    omega (arith, all, count, s.2)

-- an entry that owes most
abbrev pub greatest : Entry
greatest = record { minutes = 0; litres = 100000; ratio = 10000; product = 1 }

all_in_range : (n : ℕ) → entries_in_range (replicate n greatest) ≡ true
unfolding entries_in_range entry_in_range
all_in_range zero = refl
all_in_range (suc n) = all_in_range n

all_owe : (rates : List ℕ) (n : ℕ) → entries_duty rates (replicate n greatest) ≡ n * entry_duty rates greatest
unfolding entries_duty
all_owe rates zero = sym (zero-mul (entry_duty rates greatest))
all_owe rates (suc n) = omega (arith, all_owe rates n)

pub greatest_owe : (rates : List ℕ) → volume_duty rates (volume_string (replicate 2000 greatest)) ≡ accepted (2000 * entry_duty rates greatest)
greatest_owe rates =
    let entries = replicate 2000 greatest in
    let count = length-replicate 2000 greatest in
    duty_is rates (volume_string entries) entries
    (volume_back entries (range_holds 0 2000 (length entries) (omega arith) (omega (arith, count))) (all_in_range 2000))
    ∙ ap accepted (all_owe rates 2000)

reached : volume_duty our_rates (volume_string (replicate 2000 greatest)) ≡ accepted most_duty
unfolding entry_duty
reached = greatest_owe our_rates

pub component_duty : ComponentDuty
component_duty = record {
  rates_are = refl;
  rate_of_lem = λ a b c d e f g h. refl;
  entry_owes = entry_owes;
  one_entry = one_entry;
  sums = sums;
  volume_owes = volume_owes;
  example = example;
  example_volume = example_volume;
  refused_iff = as_reading;
  never_8 = never_8;
  accepted_where_8 = accepted_where_8;
  at_most = duty_most 120 our_rates our_rates_most;
  reached = reached;
  fits = omega arith;
}
