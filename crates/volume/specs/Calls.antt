-- Document 02 (d), reading and writing a volume, as definitions of their inputs: the result, which is the refusal or what an accepted call gives,
-- and the outcome, which says what the call leaves, refused or not.
use Rattle.std.specs.Prelude.{Bool, true, false, List, [], ◌∷◌, ℕ, zero, suc, ◌*◌, ◌%◌, eqb, leb, length}
use Rattle.laws.specs.Lent.{put_first}
use Rattle.laws.specs.Result.{Result, refused, accepted, Outcome, outcome, ◌>>=◌, ◌>>◌, refuse◌unless◌}
use Rattle.varint.specs.Number.{Reading, is, ended, malformed, read_number}
use Rattle.volume.specs.declared.Entry.{Entry}
use Rattle.volume.specs.declared.Range.{Range}
use Rattle.volume.specs.Volume.{in_range, count_range, minutes_range, litres_range, ratio_range, product_range, entries_in_range, most_groups, volume_string, numbers_of, entries_of}

-- ── reading, 'in reading order' ──

pub record ValueRead : Type 0 where
  pub value : ℕ
  pub rest : List ℕ

-- 14: 'a number not in shortest form or with a third group that announces another'. 16: the volume 'ends early'.
abbrev pub number_read : Reading → Result ValueRead
number_read (is value rest) = accepted (record { value = value; rest = rest })
number_read ended = refused 16
number_read malformed = refused 14

-- a number at the start of a string. 15: 'a value outside its range (14 where one number earns both)'.
unfoldable pub read_value : Range → (string : List ℕ) → Result ValueRead
read_value range string = do
  read ← number_read (read_number most_groups string)
  refuse 15 unless in_range range read.value
  accepted read

pub record EntryRead : Type 0 where
  pub entry : Entry
  pub rest : List ℕ

unfoldable pub read_entry : (string : List ℕ) → Result EntryRead
read_entry string = do
  minutes ← read_value minutes_range string
  litres ← read_value litres_range minutes.rest
  ratio ← read_value ratio_range litres.rest
  product ← read_value product_range ratio.rest
  accepted
      (record {
        entry = record { minutes = minutes.value; litres = litres.value; ratio = ratio.value; product = product.value };
        rest = product.rest;
      })

pub record EntriesRead : Type 0 where
  pub entries : List Entry
  pub rest : List ℕ

-- so many entries at the start of a string
unfoldable pub read_entries : (count : ℕ) (string : List ℕ) → Result EntriesRead
read_entries zero string = accepted (record { entries = []; rest = string })
read_entries (suc n) string = do
  first ← read_entry string
  others ← read_entries n first.rest
  accepted (record { entries = first.entry ∷ others.entries; rest = others.rest })

abbrev pub is_empty : List ℕ → Bool
is_empty [] = true
is_empty (b ∷ string) = false

-- the entries of a volume. 16: it 'has bytes after its last entry'.
unfoldable pub entries_in : (string : List ℕ) → Result (List Entry)
entries_in string = do
  count ← read_value count_range string
  read ← read_entries count.value count.rest
  refuse 16 unless is_empty read.rest
  accepted read.entries

-- whether a string is a volume
unfoldable pub check_volume : (string : List ℕ) → Result (Unit {0})
check_volume string = do
  entries_in string
  accepted tt

pub record VolumeRead : Type 0 where
  pub count : ℕ
  pub list : List ℕ

-- **Reading** puts the entries at the start of the lent list and returns their count; what lies beyond stays. 'then with 8 where the list is too
-- short'.
unfoldable pub read_volume : (string list : List ℕ) → Result VolumeRead
read_volume string list = do
  entries ← entries_in string
  refuse 8 unless leb (4 * length entries) (length list)
  accepted (record { count = length entries; list = put_first (numbers_of entries) list })

unfoldable pub read_volume_call : (string list : List ℕ) → Outcome VolumeRead
read_volume_call string list = outcome (record { count = 0; list = list }) (read_volume string list)

-- ── writing ──

pub record VolumeWritten : Type 0 where
  pub length : ℕ
  pub lent : List ℕ

-- **Writing** puts the volume at the start of the lent bytes and returns its length; what lies beyond stays. 16: 'a list that is not whole entries'.
-- 15: 'the first value out of range (the count leads)'. 8: 'fewer lent bytes than the volume's own length'.
unfoldable pub write_volume : (list lent : List ℕ) → Result VolumeWritten
write_volume list lent = do
  refuse 16 unless eqb (length list % 4) 0
  let entries = entries_of list
  refuse 15 unless in_range count_range (length entries)
  refuse 15 unless entries_in_range entries
  let string = volume_string entries
  refuse 8 unless leb (length string) (length lent)
  accepted (record { length = length string; lent = put_first string lent })

unfoldable pub write_volume_call : (list lent : List ℕ) → Outcome VolumeWritten
write_volume_call list lent = outcome (record { length = 0; lent = lent }) (write_volume list lent)
