-- What reading accepts is in its ranges. Assumes nothing.
use mathlib.Core.Path.{◌≡◌, refl, sym, ap, ◌∙◌}
use mathlib.Core.Bool.{Bool, true, ◌&&◌}
use mathlib.Core.List.{List}
use Prim.Native.Nat.{ℕ, zero, suc, ◌≤◌}
use lib.ListN.{length}
use Rattle.laws.proofs.Same.{and_left, and_right}
use Rattle.laws.specs.Result.{accepted, ◌>>=◌}
use Rattle.laws.proofs.Results.{after_line, no_refusal}
use Rattle.volume.specs.declared.Entry.{Entry}
use Rattle.volume.specs.Volume.{in_range, count_range, minutes_range, litres_range, ratio_range, product_range, entry_in_range, entries_in_range}
use Rattle.volume.specs.Calls.{EntryRead, EntriesRead, read_value, read_entry, read_entries, entries_in}
use Rattle.volume.proofs.Values.{value_in_range, range_least, range_most}
use Rattle.volume.proofs.FourNumbers.{entry_four}
use Rattle.volume.proofs.EntryByEntry.{entries_first, none_left, entries_count}
use Rattle.volume.proofs.Counting.{whole}
use Rattle.volume.proofs.Volumes.{whole_found}

-- the four ranges of an entry
module _ (e : Entry) (h : entry_in_range e ≡ true) where
  abbrev first_three : Bool
  first_three = in_range minutes_range e.minutes && in_range litres_range e.litres && in_range ratio_range e.ratio

  three : first_three ≡ true
  unfolding entry_in_range
  three = and_left first_three (in_range product_range e.product) h

  pub minutes_in : in_range minutes_range e.minutes ≡ true
  minutes_in = and_left _ (in_range litres_range e.litres) (and_left _ (in_range ratio_range e.ratio) three)

  pub litres_in : in_range litres_range e.litres ≡ true
  litres_in = and_right (in_range minutes_range e.minutes) _ (and_left _ (in_range ratio_range e.ratio) three)

  pub ratio_in : in_range ratio_range e.ratio ≡ true
  ratio_in = and_right (in_range minutes_range e.minutes && in_range litres_range e.litres) _ three

  pub product_in : in_range product_range e.product ≡ true
  unfolding entry_in_range
  product_in = and_right first_three _ h

pub entry_in_range_lem : (string : List ℕ) (found : EntryRead) → read_entry string ≡ accepted found → entry_in_range found.entry ≡ true
unfolding entry_in_range
entry_in_range_lem string found e =
    let f = entry_four string found e in
    rw f.entry_is_lem
    (rw (
      value_in_range minutes_range string f.minutes f.is_minutes,
      value_in_range litres_range f.minutes.rest f.litres f.is_litres,
      value_in_range ratio_range f.litres.rest f.ratio f.is_ratio,
      value_in_range product_range f.ratio.rest f.product f.is_product,
    ))

-- the ranges of an entry as inequalities, but for its minutes
pub entry_ranges : (string : List ℕ) (found : EntryRead) → read_entry string ≡ accepted found
    → (found.entry.litres ≤ 100000) × (found.entry.ratio ≤ 10000) × (1 ≤ found.entry.product) × (found.entry.product ≤ 8)
entry_ranges string found e =
    let h = entry_in_range_lem string found e in
    let entry = found.entry in (
      range_most litres_range entry.litres (litres_in entry h),
      range_most ratio_range entry.ratio (ratio_in entry h),
      range_least product_range entry.product (product_in entry h),
      range_most product_range entry.product (product_in entry h),
    )

entries_in_range_lem : (n : ℕ) (string : List ℕ) (found : EntriesRead) → read_entries n string ≡ accepted found → entries_in_range found.entries ≡ true
unfolding entries_in_range
entries_in_range_lem zero string found e = rw (none_left string found e)
entries_in_range_lem (suc n) string found e =
    let f = entries_first n string found e in
    rw f.both (rw (entry_in_range_lem string f.first f.first_is, entries_in_range_lem n f.first.rest f.others f.others_are))

pub volume_lines : (string : List ℕ) → entries_in string ≡ (read_value count_range string >>= λ count. whole (read_entries count.value count.rest))
unfolding entries_in
volume_lines string = refl

pub record VolumeInRange (entries : List Entry) : Type 0 where
  pub count_in_lem : in_range count_range (length entries) ≡ true
  pub in_range_lem : entries_in_range entries ≡ true

pub volume_in_range : (string : List ℕ) (entries : List Entry) → entries_in string ≡ accepted entries → VolumeInRange entries
volume_in_range string entries e =
    after_line (read_value count_range string) _ (sym (volume_lines string) ∙ e) (λ n q _. no_refusal q) (λ count p q.
    let f = whole_found (read_entries count.value count.rest) entries q in
    let n : length entries ≡ count.value = ap length (sym f.2) ∙ entries_count count.value count.rest f.0 f.1 in
    record {
      count_in_lem = rw n (value_in_range count_range string count p);
      in_range_lem = rw f.2 at (entries_in_range_lem count.value count.rest f.0 f.1);
    })
