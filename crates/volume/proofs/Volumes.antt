-- Reading a volume into a list, from the count of its entries. Assumes nothing.
use mathlib.Core.Path.{◌≡◌, refl, sym, ◌∙◌}
use mathlib.Core.Bool.{Bool, true, false}
use mathlib.Core.List.{List, [], ◌∷◌}
use Prim.Native.Nat.{ℕ, ◌*◌, ◌<◌, ◌≤◌}
use borrow.Author.Tests.{le-leb, lt-leb}
use lib.ListN.{length, drop}
use Rattle.laws.specs.Lent.{put_first}
use Rattle.laws.specs.Result.{Result, refused, accepted, ◌>>=◌, ◌>>◌, refuse◌unless◌}
use Rattle.laws.proofs.Results.{block_in_block, same_lines, refused_iff, no_refusal, accepted_one}
use Rattle.varint.specs.declared.Found.{Found}
use Rattle.volume.specs.declared.Entry.{Entry}
use Rattle.volume.specs.Volume.{count_range, numbers_of}
use Rattle.volume.specs.Calls.{EntriesRead, read_value, read_entries, is_empty, entries_in, check_volume, read_volume}
use Rattle.volume.specs.Found.{entries_only, count_in, Begins, Stored}
use Rattle.volume.proofs.Counting.{whole}

counted : (r : Result (List Entry)) (n : ℕ) → (r >>= λ entries. accepted (length entries)) ≡ accepted n
    → (entries : List Entry) × (r ≡ accepted entries) × (length entries ≡ n)
counted (refused m) n e = no_refusal (sym e)
counted (accepted entries) n e = (entries, refl, accepted_one refl e)

-- the refusal of a count by itself
refusal_alone : (r : Result (List Entry)) (m : ℕ) → (r >>= λ entries. accepted (length entries)) ≡ refused m → refused m ≡ (r >> accepted (tt {0}))
refusal_alone (refused n) m e = cc
refusal_alone (accepted entries) m e = no_refusal e

count_alone : (r : Result (List Entry)) (n : ℕ) → (r >>= λ entries. accepted (length entries)) ≡ accepted n → accepted tt ≡ (r >> accepted (tt {0}))
count_alone (refused m) n e = no_refusal (sym e)
count_alone (accepted entries) n e = refl

unread_one : (r : Result (List Entry)) (m : ℕ) → (r >> accepted (tt {0})) ≡ refused m → r ≡ refused m
unread_one (refused n) m e = cc
unread_one (accepted entries) m e = no_refusal e

read_one : (r : Result (List Entry)) → (r >> accepted (tt {0})) ≡ accepted (tt {0}) → (entries : List Entry) × (r ≡ accepted entries)
read_one (refused m) e = no_refusal (sym e)
read_one (accepted entries) e = (entries, refl)

rest_found : (rest : List ℕ) (found entries : List Entry) → ((refuse 16 unless is_empty rest) >> accepted found) ≡ accepted entries
    → (found ≡ entries) × (rest ≡ [])
rest_found [] found entries e = (accepted_one refl e, refl)
rest_found (b ∷ rest) found entries e = no_refusal (sym e)

pub whole_found : (r : Result EntriesRead) (entries : List Entry) → whole r ≡ accepted entries
    → (found : EntriesRead) × (r ≡ accepted found) × (found.entries ≡ entries) × (found.rest ≡ [])
whole_found (refused m) entries e = no_refusal (sym e)
whole_found (accepted found) entries e = let h = rest_found found.rest found.entries entries e in (found, refl, h.0, h.1)

-- a value of a volume's entries, from its first number and the entries after it
value_last : {A : Type 0} (value : List Entry → A) (b : Bool) (entries : List Entry)
    → ((refuse 16 unless b) >> accepted entries >>= λ found. accepted (value found)) ≡ ((refuse 16 unless b) >> accepted (value entries))
value_last value true entries = refl
value_last value false entries = refl

pub volume_value : {A : Type 0} (value : List Entry → A) (string : List ℕ)
    → (entries_in string >>= λ entries. accepted (value entries))
    ≡ (read_value count_range string >>= λ count. entries_only value count.value count.rest)
unfolding entries_in entries_only
volume_value value string =
    block_in_block (read_value count_range string) _ _
    ∙ same_lines (read_value count_range string) _ _ (λ count.
    block_in_block (read_entries count.value count.rest) _ _
    ∙ same_lines (read_entries count.value count.rest) _ _ (λ read. value_last value (is_empty read.rest) read.entries))

module _ (string : List ℕ) where
  pub unread : (m : ℕ) → refused m ≡ count_in string → refused m ≡ check_volume string
  unfolding count_in check_volume
  unread m e = refusal_alone (entries_in string) m (sym e)

  pub entries_refused : (m : ℕ) → refused m ≡ count_in string → entries_in string ≡ refused m
  unfolding count_in
  entries_refused m e = (refused_iff length (entries_in string) m).0 (sym e)

  module _ (n : ℕ) (e : accepted n ≡ count_in string) where
    pub is_read : accepted tt ≡ check_volume string
    unfolding count_in check_volume
    is_read = count_alone (entries_in string) n (sym e)

    pub entries_accepted : (entries : List Entry) × (entries_in string ≡ accepted entries) × (length entries ≡ n)
    unfolding count_in
    entries_accepted = counted (entries_in string) n (sym e)

  module _ (found : Found ℕ) (begin : Begins string found) where
    pub entries_found : (entries : List Entry) → entries_in string ≡ accepted entries
        → (read : EntriesRead) × (read_entries found.value (drop found.next string) ≡ accepted read) × (read.entries ≡ entries) × (read.rest ≡ [])
    unfolding entries_in
    entries_found entries e = whole_found (read_entries found.value (drop found.next string)) entries (rw begin.begins at e)

  module _ (list : List ℕ) where
    pub reads_refused : (m : ℕ) → refused m ≡ count_in string → read_volume string list ≡ refused m
    unfolding read_volume
    reads_refused m e = rw (entries_refused m e)

    module _ (found : Found ℕ) (count : accepted found.value ≡ count_in string) where
      pub reads_short : length list < 4 * found.value → read_volume string list ≡ refused 8
      unfolding read_volume
      reads_short l = let e = entries_accepted found.value count in rw (e.1, e.2, lt-leb (4 * found.value) (length list) l)

      pub reads_all : (after : List ℕ) → Begins string found → 4 * found.value ≤ length list → Stored found.value (drop found.next string) list after
          → read_volume string list ≡ accepted (record { count = found.value; list = after })
      unfolding read_volume
      reads_all after begin l stored =
          let e = entries_accepted found.value count in
          let f = entries_found found begin e.0 e.1 in
          let put : after ≡ put_first (numbers_of e.0) list = rw f.2 at (stored f.0 f.1) in
          rw (e.1, e.2, le-leb (4 * found.value) (length list) l, put)

-- what a caller learns from the answer of `check_volume`
module _ (string : List ℕ) where
  pub check_refused : (m : ℕ) → refused m ≡ check_volume string → entries_in string ≡ refused m
  unfolding check_volume
  check_refused m e = unread_one (entries_in string) m (sym e)

  pub check_accepted : accepted tt ≡ check_volume string → (entries : List Entry) × (entries_in string ≡ accepted entries)
  unfolding check_volume
  check_accepted e = read_one (entries_in string) (sym e)
