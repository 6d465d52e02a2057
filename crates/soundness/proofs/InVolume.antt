-- The answer that the code works out for a string fits it: number by number, from what lies before each. Assumes nothing.
use mathlib.Core.Path.{◌≡◌, refl, sym, ap, ◌∙◌}
use mathlib.Core.Bool.{true}
use mathlib.Core.List.{List, [], ◌∷◌, ◌++◌, append_assoc}
use Prim.Native.Nat.{ℕ, zero, suc, ◌^◌, ◌≤◌, ◌<◌}
use native.Mathlib.Omega.{arith}
use Rattle.laws.specs.Result.{Result, refused, accepted, ◌>>=◌, ◌>>◌}
use Rattle.laws.proofs.Results.{block_in_block, same_lines, refused_iff, no_refusal}
use Rattle.word.specs.Bytes.{AllBytes}
use Rattle.varint.specs.Number.{number}
use Rattle.volume.specs.declared.Entry.{Entry}
use Rattle.volume.specs.declared.Range.{Range}
use Rattle.volume.specs.Volume.{in_range, count_range, minutes_range, litres_range, ratio_range, product_range}
use Rattle.volume.specs.Calls.{ValueRead, EntryRead, read_value, read_entry, entries_in, check_volume}
use Rattle.volume.specs.Found.{entries_only}
use Rattle.volume.proofs.Values.{value_in_range}
use Rattle.volume.proofs.Undo.{value_back, value_was}
use Rattle.volume.proofs.FourNumbers.{entry_of, entry_four}
use Rattle.volume.proofs.EntryByEntry.{only_zero, only_suc}
use Rattle.volume.proofs.Volumes.{volume_value}
use Rattle.soundness.specs.declared.Soundness.{Soundness}
use Rattle.soundness.specs.Soundness.{Fits}
use Rattle.soundness.specs.Found.{either, number_soundness, after_number, entry_soundness, entries_soundness, volume_soundness}
use Rattle.soundness.proofs.Completions.{Checks, Completes, volume_is, hopeless_fits}
use Rattle.soundness.proofs.InNumber.{HasOne, Goes, goes_number, front_bytes, number_fits}

-- ---- the ranges of a volume have 1 in them

has_one : (least most : ℕ) → least ≤ 1 → 1 ≤ most → most < 128 ^ 3 → HasOne (record { least = least; most = most })
has_one least most l m s = record { small = s; from = l; to = m }

pub count_one : HasOne count_range
count_one = has_one 0 2000 (omega arith) (omega arith) (omega arith)

pub minutes_one : HasOne minutes_range
minutes_one = has_one 0 1440 (omega arith) (omega arith) (omega arith)

pub litres_one : HasOne litres_range
litres_one = has_one 0 100000 (omega arith) (omega arith) (omega arith)

pub ratio_one : HasOne ratio_range
ratio_one = has_one 0 10000 (omega arith) (omega arith) (omega arith)

pub product_one : HasOne product_range
product_one = has_one 1 8 (omega arith) (omega arith) (omega arith)

-- ---- what is left of a volume to check, from each of its numbers on

abbrev Reader : Type 0
Reader = List ℕ → Result (Unit {0})

-- a number in its range, then the rest
abbrev then : Range → (ℕ → Reader) → Reader
then range after t = read_value range t >>= λ read. after read.value read.rest

-- n entries and nothing after them
abbrev left : ℕ → Reader
left n t = entries_only (λ _. tt {0}) n t

abbrev from_product : ℕ → Reader
from_product n = then product_range (λ _. left n)

abbrev from_ratio : ℕ → Reader
from_ratio n = then ratio_range (λ _. from_product n)

abbrev from_litres : ℕ → Reader
from_litres n = then litres_range (λ _. from_ratio n)

abbrev from_minutes : ℕ → Reader
from_minutes n = then minutes_range (λ _. from_litres n)

as_value : (r : Result (List Entry)) → (r >> accepted (tt {0})) ≡ (r >>= λ _. accepted (tt {0}))
as_value (refused n) = refl
as_value (accepted entries) = refl

check_count : (t : List ℕ) → check_volume t ≡ then count_range left t
unfolding check_volume
check_count t = as_value (entries_in t) ∙ volume_value (λ _. tt {0}) t

left_suc : (n : ℕ) (t : List ℕ) → left (suc n) t ≡ from_minutes n t
unfolding read_entry
left_suc n t =
    only_suc (λ _. tt {0}) n t
    ∙ block_in_block (read_value minutes_range t) _ _
    ∙ same_lines (read_value minutes_range t) _ _ (λ minutes.
    block_in_block (read_value litres_range minutes.rest) _ _
    ∙ same_lines (read_value litres_range minutes.rest) _ _ (λ litres.
    block_in_block (read_value ratio_range litres.rest) _ _
    ∙ same_lines (read_value ratio_range litres.rest) _ _ (λ ratio.
    block_in_block (read_value product_range ratio.rest) _ _)))

-- ---- from each of them on, some bytes are accepted

module _ (n : ℕ) (goes : Goes (left n)) where
  product_goes : Goes (from_product n)
  product_goes = goes_number product_range product_one (λ _. left n) (λ _ _. goes)

  ratio_goes : Goes (from_ratio n)
  ratio_goes = goes_number ratio_range ratio_one (λ _. from_product n) (λ _ _. product_goes)

  litres_goes : Goes (from_litres n)
  litres_goes = goes_number litres_range litres_one (λ _. from_ratio n) (λ _ _. ratio_goes)

  minutes_goes : Goes (from_minutes n)
  minutes_goes = goes_number minutes_range minutes_one (λ _. from_litres n) (λ _ _. litres_goes)

left_goes : (n : ℕ) → Goes (left n)
left_goes zero = record { more = []; bytes = λ k. omega arith; accepts = only_zero (λ _. tt {0}) [] }
left_goes (suc n) =
    let g = minutes_goes n (left_goes n) in
    record { more = g.more; bytes = g.bytes; accepts = left_suc n g.more ∙ g.accepts }

pub empty_completes : Completes []
empty_completes =
    let g = goes_number count_range count_one left (λ n _. left_goes n) in
    record { more = g.more; bytes = g.bytes; checks = check_count g.more ∙ g.accepts }

-- ---- the answer, from each of them on

module _ (string : List ℕ) (bytes : AllBytes string) where
  -- a place of the string: what lies before it, and what is left to check from there on
  record At (before rest : List ℕ) (reader : Reader) : Type 0 where
    string_is : string ≡ before ++ rest
    rest_bytes : AllBytes rest
    check_is : (t : List ℕ) → check_volume (before ++ t) ≡ reader t

  module _ (range : Range) (one : HasOne range) (after : ℕ → Reader) (before rest : List ℕ) (here : At before rest (then range after)) where
    -- the place after a number
    passed : (v : ValueRead) → read_value range rest ≡ accepted v → At (before ++ number v.value) v.rest (after v.value)
    passed v e =
        let w = value_was range rest v here.rest_bytes e in
        let back = value_back range one.small v.value in
        record {
          string_is = here.string_is ∙ ap (λ (s : List ℕ). before ++ s) w.string_is ∙ sym (append_assoc before (number v.value) v.rest);
          rest_bytes = w.rest_bytes;
          check_is = λ t.
              ap check_volume (append_assoc before (number v.value) t)
              ∙ here.check_is (number v.value ++ t) ∙ rw (back t (value_in_range range rest v e));
        }

    module _ (goes : (n : ℕ) → in_range range n ≡ true → Goes (after n)) where
      refused_fits : (m : ℕ) → read_value range rest ≡ refused m → Fits string (number_soundness string range rest)
      refused_fits m e = number_fits range one string bytes after goes before rest m here.string_is here.check_is e

      by_read : (f : ValueRead → Soundness) (r : Result ValueRead) → read_value range rest ≡ r
          → ((v : ValueRead) → read_value range rest ≡ accepted v → At (before ++ number v.value) v.rest (after v.value) → Fits string (f v))
          → Fits string (either r (number_soundness string range rest) f)
      by_read f (refused m) e k = refused_fits m e
      by_read f (accepted v) e k = k v e (passed v e)

      -- the answer for a number, or for what comes after it
      number_then : (f : ValueRead → Soundness)
          → ((v : ValueRead) → read_value range rest ≡ accepted v → At (before ++ number v.value) v.rest (after v.value) → Fits string (f v))
          → Fits string (after_number string range rest f)
      number_then f k = by_read f (read_value range rest) refl k

  at_entry : (n : ℕ) (before rest : List ℕ) → At before rest (left (suc n)) → At before rest (from_minutes n)
  at_entry n before rest here = record { string_is = here.string_is; rest_bytes = here.rest_bytes; check_is = λ t. here.check_is t ∙ left_suc n t }

  entry_fits : (n : ℕ) (before rest : List ℕ) (m : ℕ) → At before rest (left (suc n)) → read_entry rest ≡ refused m → Fits string (entry_soundness string rest)
  unfolding entry_soundness read_entry
  entry_fits n before rest m here r =
      let goes = left_goes n in
      number_then minutes_range minutes_one (λ _. from_litres n) _ _ (at_entry n before rest here) (λ _ _. litres_goes n goes) _ λ minutes e₁ here₁.
      number_then litres_range litres_one (λ _. from_ratio n) _ _ here₁ (λ _ _. ratio_goes n goes) _ λ litres e₂ here₂.
      number_then ratio_range ratio_one (λ _. from_product n) _ _ here₂ (λ _ _. product_goes n goes) _ λ ratio e₃ here₃.
      refused_fits product_range product_one (λ _. left n) _ _ here₃ (λ _ _. goes) m
      ((refused_iff (entry_of minutes litres ratio) (read_value product_range ratio.rest) m).0 (rw (e₁, e₂, e₃) at r))

  -- the place after an entry
  entry_passed : (n : ℕ) (before rest : List ℕ) (found : EntryRead) → At before rest (left (suc n)) → read_entry rest ≡ accepted found
      → (done : List ℕ) × At done found.rest (left n)
  entry_passed n before rest found here r =
      let f = entry_four rest found r in
      let here₁ = passed minutes_range minutes_one (λ _. from_litres n) _ _ (at_entry n before rest here) f.minutes f.is_minutes in
      let here₂ = passed litres_range litres_one (λ _. from_ratio n) _ _ here₁ f.litres f.is_litres in
      let here₃ = passed ratio_range ratio_one (λ _. from_product n) _ _ here₂ f.ratio f.is_ratio in
      rw f.entry_is_lem (_, passed product_range product_one (λ _. left n) _ _ here₃ f.product f.is_product)

  by_entry : (n : ℕ) (before rest : List ℕ) → At before rest (left (suc n))
      → ((done others : List ℕ) → At done others (left n) → Fits string (entries_soundness string n others))
      → (r : Result EntryRead) → read_entry rest ≡ r
      → Fits string (either r (entry_soundness string rest) λ first. entries_soundness string n first.rest)
  by_entry n before rest here k (refused m) e = entry_fits n before rest m here e
  by_entry n before rest here k (accepted found) e = let p = entry_passed n before rest found here e in k p.0 found.rest p.1

  entries_fit : (n : ℕ) (before rest : List ℕ) → At before rest (left n) → Fits string (entries_soundness string n rest)
  unfolding entries_soundness
  entries_fit zero before [] here =
      volume_is string (ap check_volume here.string_is ∙ here.check_is [] ∙ only_zero (λ _. tt {0}) [])
  entries_fit zero before (b ∷ rest) here =
      let none : (more : List ℕ) → AllBytes more → Checks (before ++ (b ∷ more)) → ⊥ =
      λ more _ c. no_refusal (sym c ∙ here.check_is (b ∷ more) ∙ only_zero (λ _. tt {0}) (b ∷ more)) in
      let whole : Completes before = record { more = []; bytes = λ k. omega arith; checks = here.check_is [] ∙ only_zero (λ _. tt {0}) [] } in
      rw here.string_is (hopeless_fits before rest b (front_bytes before (b ∷ rest) (rw here.string_is at bytes)) whole none)
  entries_fit (suc n) before rest here = by_entry n before rest here (entries_fit n) (read_entry rest) refl

  -- the answer that the code works out fits the string
  pub volume_fits : Fits string (volume_soundness string)
  unfolding volume_soundness
  volume_fits =
      number_then count_range count_one left [] string (record { string_is = refl; rest_bytes = bytes; check_is = check_count }) (λ n _. left_goes n) _
      λ count e here. entries_fit count.value _ count.rest here
