-- What the code passes on while it reads or writes a volume. Only contracts below the calls cite it.
use Rattle.std.specs.Prelude.{◌≡◌, List, ℕ, ◌≤◌, length, drop}
use Rattle.laws.specs.Lent.{put_first}
use Rattle.laws.specs.Result.{Result, accepted, ◌>>=◌, ◌>>◌, refuse◌unless◌}
use Rattle.varint.specs.declared.Found.{Found}
use Rattle.volume.specs.declared.Entry.{Entry}
use Rattle.volume.specs.declared.Range.{Range}
use Rattle.volume.specs.Volume.{count_range, entries_in_range, entries_string, numbers_of}
use Rattle.volume.specs.Calls.{ValueRead, EntryRead, EntriesRead, read_value, read_entry, read_entries, is_empty, entries_in}

-- a value or an entry that was found in a string; the place after it stands for the bytes from there on
abbrev pub value_from : List ℕ → Found ℕ → ValueRead
value_from string found = record { value = found.value; rest = drop found.next string }

abbrev pub entry_from : List ℕ → Found Entry → EntryRead
entry_from string found = record { entry = found.value; rest = drop found.next string }

-- a number or an entry from a place on, where there is one that is in its range
abbrev pub NumberReadAgain : (string : List ℕ) (at : ℕ) → Found ℕ → Type 0
NumberReadAgain string at r =
    (range : Range) (found : ValueRead) → read_value range (drop at string) ≡ accepted found → found ≡ value_from string r

abbrev pub EntryReadAgain : (string : List ℕ) (at : ℕ) → Found Entry → Type 0
EntryReadAgain string at r = (found : EntryRead) → read_entry (drop at string) ≡ accepted found → found ≡ entry_from string r

-- what a function gives for n entries with nothing after them, or the refusal
unfoldable pub entries_only : {A : Type 0} → (f : List Entry → A) (n : ℕ) (string : List ℕ) → Result A
entries_only f n string = do
  read ← read_entries n string
  refuse 16 unless is_empty read.rest
  accepted (f read.entries)

-- how many entries a volume has, or its refusal
unfoldable pub count_in : (string : List ℕ) → Result ℕ
count_in string = do
  entries ← entries_in string
  accepted (length entries)

-- the count of a volume's entries, and the place where they begin
pub record Begins (string : List ℕ) (r : Found ℕ) : Type 0 where
  pub at_most : r.value ≤ 2000
  pub within : r.next ≤ length string
  pub begins : read_value count_range string ≡ accepted (value_from string r)

-- where n entries begin the string, the list has their numbers at its start, and later elements as before
abbrev pub Stored : (n : ℕ) (string before after : List ℕ) → Type 0
Stored n string before after = (found : EntriesRead) → read_entries n string ≡ accepted found → after ≡ put_first (numbers_of found.entries) before

-- how many bytes entries take. 15: one of their numbers is out of its range.
unfoldable pub entries_length : List Entry → Result ℕ
entries_length entries = do
  refuse 15 unless entries_in_range entries
  accepted (length (entries_string entries))
