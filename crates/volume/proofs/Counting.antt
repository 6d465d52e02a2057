-- The count of a volume's entries, from its first number and the entries after it. Assumes nothing.
use mathlib.Core.Path.{◌≡◌, refl, sym}
use mathlib.Core.List.{List, [], ◌∷◌}
use Prim.Native.Nat.{ℕ, ◌≤◌}
use lib.ListN.{length, drop}
use Rattle.laws.specs.Result.{Result, refused, accepted, ◌>>=◌, ◌>>◌, refuse◌unless◌}
use Rattle.laws.proofs.Results.{no_refusal}
use Rattle.varint.specs.declared.Found.{Found}
use Rattle.volume.specs.declared.Entry.{Entry}
use Rattle.volume.specs.Volume.{count_range}
use Rattle.volume.specs.Calls.{EntriesRead, read_value, read_entries, is_empty, entries_in}
use Rattle.volume.specs.Found.{value_from, entries_only, count_in, Begins}
use Rattle.volume.proofs.Values.{value_in_range, range_most}
use Rattle.volume.proofs.EntryByEntry.{entries_count}

-- the volume as entries and nothing after them
abbrev pub whole : Result EntriesRead → Result (List Entry)
whole r = do
  read ← r
  refuse 16 unless is_empty read.rest
  accepted read.entries

rest_refused : (entries : List Entry) (rest : List ℕ) (m : ℕ) → ((refuse 16 unless is_empty rest) >> accepted (tt {0})) ≡ refused m
    → ((refuse 16 unless is_empty rest) >> accepted entries) ≡ refused m
rest_refused entries [] m e = no_refusal e
rest_refused entries (b ∷ rest) m e = cc

rest_accepted : (rest : List ℕ) → ((refuse 16 unless is_empty rest) >> accepted (tt {0})) ≡ accepted tt → rest ≡ []
rest_accepted [] e = refl
rest_accepted (b ∷ rest) e = no_refusal (sym e)

whole_refused : (r : Result EntriesRead) (m : ℕ) → (r >>= λ read. (refuse 16 unless is_empty read.rest) >> accepted (tt {0})) ≡ refused m
    → whole r ≡ refused m
whole_refused (refused n) m e = cc
whole_refused (accepted read) m e = rest_refused read.entries read.rest m e

whole_accepted : (r : Result EntriesRead) → (r >>= λ read. (refuse 16 unless is_empty read.rest) >> accepted (tt {0})) ≡ accepted tt
    → (read : EntriesRead) × (r ≡ accepted read) × (whole r ≡ accepted read.entries)
whole_accepted (refused n) e = no_refusal (sym e)
whole_accepted (accepted read) e = (read, refl, rw (rest_accepted read.rest e))

module _ (string : List ℕ) where
  pub counts_no_number : (m : ℕ) → refused m ≡ read_value count_range string → refused m ≡ count_in string
  unfolding count_in entries_in
  counts_no_number m q = rw (sym q)

  module _ (found : Found ℕ) (number : accepted (value_from string found) ≡ read_value count_range string) where
    pub counts_no_entries : (m : ℕ) → refused m ≡ entries_only (λ _. tt {0}) found.value (drop found.next string) → refused m ≡ count_in string
    unfolding count_in entries_in entries_only
    counts_no_entries m q = rw (sym number, whole_refused (read_entries found.value (drop found.next string)) m (sym q))

    pub counts : accepted tt ≡ entries_only (λ _. tt {0}) found.value (drop found.next string) → accepted found.value ≡ count_in string
    unfolding count_in entries_in entries_only
    counts q =
        let w = whole_accepted (read_entries found.value (drop found.next string)) (sym q) in
        rw (sym number, w.2, entries_count found.value (drop found.next string) _ w.1)

    pub begins : found.next ≤ length string → Begins string found
    begins h = record {
      at_most = range_most count_range found.value (value_in_range count_range string _ (sym number));
      within = h;
      begins = sym number;
    }
