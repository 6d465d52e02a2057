-- Document 02 (d), the shift volume: 'a writer and a reader, where the two undo each other, and a call that enciphers a written volume in its buffer,
-- a cipher call in the account and for the mark'.
use Rattle.std.specs.Prelude.{◌≡◌, List, [], ◌∷◌, ◌↔◌, ℕ, ◌*◌, ◌/◌, ◌%◌, ◌≤◌, ◌<◌, length, take, drop}
use Rattle.laws.specs.Lent.{put_first}
use Rattle.laws.specs.Result.{refused, accepted}
use Rattle.word.specs.Bytes.{AllBytes}
use Rattle.volume.specs.declared.Entry.{Entry}
use Rattle.volume.specs.Volume.{volume_string, numbers_of}
use Rattle.volume.specs.Calls.{entries_in, VolumeRead, read_volume, VolumeWritten, write_volume}
use Rattle.engine.specs.declared.Head.{Head}
use Rattle.engine.specs.Calls.{Engine, cipher, cipher_call, encipher_volume, encipher_volume_call}
use Rattle.theorems.specs.Account.{call_cipher, call_encipher_volume, called, Account, feed}
use Rattle.theorems.specs.Farthest.{reached_by}

-- 'minutes since the previous entry, 0 to 1,440; litres, 0 to 100,000; ratio in hundredths of a percent, 0 to 10,000; product, 1 to 8'
pub record InRange (e : Entry) : Type 0 where
  pub minutes : e.minutes ≤ 1440
  pub litres : e.litres ≤ 100000
  pub ratio : e.ratio ≤ 10000
  pub product : (1 ≤ e.product) × (e.product ≤ 8)

abbrev pub AllInRange : List Entry → Type 0
AllInRange [] = Unit {0}
AllInRange (e ∷ entries) = InRange e × AllInRange entries

-- 'A volume is a count of entries, 0 to 2,000, then the entries': the string is the volume of these entries
pub record Volume (string : List ℕ) (entries : List Entry) : Type 0 where
  pub count : length entries ≤ 2000
  pub in_range_lem : AllInRange entries
  pub string_is : string ≡ volume_string entries

pub record ShiftVolume : Type 0 where
  -- Reading accepts exactly the volumes, where the list has four elements for each entry, and gives their entries.
  pub read_iff :
      (string : List ℕ) (entries : List Entry) → AllBytes string → (entries_in string ≡ accepted entries) ↔ Volume string entries
  pub read_gives :
      (string list : List ℕ) (entries : List Entry) → entries_in string ≡ accepted entries → 4 * length entries ≤ length list
      → read_volume string list ≡ accepted (record { count = length entries; list = put_first (numbers_of entries) list })
  -- 'then with 8 where the list is too short': 8 is given exactly there, and every other refusal does not depend on the list.
  pub read_8 :
      (string list : List ℕ)
      → (read_volume string list ≡ refused 8) ↔ ((entries : List Entry) × (entries_in string ≡ accepted entries) × (length list < 4 * length entries))
  pub read_refused :
      (string list : List ℕ) (n : ℕ) → (n ≡ 8 → ⊥) → (read_volume string list ≡ refused n) ↔ (entries_in string ≡ refused n)
  -- Writing accepts exactly the lists of entries whose volume fits the lent bytes, and gives that volume.
  pub write_iff :
      (list lent : List ℕ) (w : VolumeWritten)
      → (write_volume list lent ≡ accepted w)
      ↔ ((entries : List Entry) × (list ≡ numbers_of entries) × Volume (volume_string entries) entries
      × (length (volume_string entries) ≤ length lent)
      × (w ≡ record { length = length (volume_string entries); lent = put_first (volume_string entries) lent }))
  -- 'Writing refuses a list that is not whole entries with 16, the first value out of range (the count leads) with 15, then fewer lent bytes than the
  -- volume's own length with 8': each number is given exactly where it is due.
  pub write_16 : (list lent : List ℕ) → (write_volume list lent ≡ refused 16) ↔ (length list % 4 ≡ 0 → ⊥)
  pub write_15 :
      (list lent : List ℕ)
      → (write_volume list lent ≡ refused 15)
      ↔ ((entries : List Entry) × (list ≡ numbers_of entries) × ((length entries ≤ 2000) × AllInRange entries → ⊥))
  pub write_8 :
      (list lent : List ℕ)
      → (write_volume list lent ≡ refused 8)
      ↔ ((entries : List Entry) × (list ≡ numbers_of entries) × Volume (volume_string entries) entries × (length lent < length (volume_string entries)))
  -- What is written is read back as the same list: for every list that the writer accepts, reading the bytes that it gave puts the same numbers at
  -- the start of every list that is as long at least.
  pub read_after_write :
      (list lent : List ℕ) (w : VolumeWritten) → write_volume list lent ≡ accepted w → (other : List ℕ) → length list ≤ length other
      → read_volume (take w.length w.lent) other ≡ accepted (record { count = length list / 4; list = put_first list other })
  -- What is read is written as the same bytes: for every string that the reader accepts, writing the numbers that it gave puts the same bytes at the
  -- start of all lent bytes that are as many at least.
  pub write_after_read :
      (string list : List ℕ) (r : VolumeRead) → AllBytes string → read_volume string list ≡ accepted r
      → (lent : List ℕ) → length string ≤ length lent
      → write_volume (take (4 * r.count) r.list) lent ≡ accepted (record { length = length string; lent = put_first string lent })
  -- 'what lies beyond stays'
  pub read_beyond :
      (string list : List ℕ) (r : VolumeRead) → read_volume string list ≡ accepted r → drop (4 * r.count) r.list ≡ drop (4 * r.count) list
  pub write_beyond :
      (list lent : List ℕ) (w : VolumeWritten) → write_volume list lent ≡ accepted w → drop w.length w.lent ≡ drop w.length lent
  -- A volume has 1 to 16,002 bytes.
  pub write_length : (list lent : List ℕ) (w : VolumeWritten) → write_volume list lent ≡ accepted w → (1 ≤ w.length) × (w.length ≤ 16002)
  -- 'Enciphering refuses as reading does, 8 excepted, then as a cipher call does': what reading refuses is refused with the same number, whatever
  -- head and area are, and for the rest it is the cipher call of these bytes, which gives and leaves the same.
  pub encipher_refused :
      (h : Head) (area volume : List ℕ) (n : ℕ) → entries_in volume ≡ refused n → encipher_volume h area volume ≡ refused n
  pub encipher_ciphers :
      (h : Head) (area volume : List ℕ) (entries : List Entry) → entries_in volume ≡ accepted entries
      → (encipher_volume h area volume ≡ cipher h area volume) × (encipher_volume_call h area volume ≡ cipher_call h area volume)
  -- 'a cipher call in the account and for the mark': in a list too it is the cipher call of these bytes where they are a volume, ..
  pub call_ciphers :
      (e : Engine) (size : ℕ) (a : Account) (reached volume : List ℕ) (entries : List Entry) → entries_in volume ≡ accepted entries
      → (called e (call_encipher_volume volume) ≡ called e (call_cipher volume))
      × (feed size a (call_encipher_volume volume) ≡ feed size a (call_cipher volume))
      × (reached_by size a reached (call_encipher_volume volume) ≡ reached_by size a reached (call_cipher volume))
  -- .. and leaves engine, account and mark where they are no volume.
  pub call_leaves :
      (e : Engine) (size : ℕ) (a : Account) (reached volume : List ℕ) (n : ℕ) → entries_in volume ≡ refused n
      → (called e (call_encipher_volume volume) ≡ e) × (feed size a (call_encipher_volume volume) ≡ a)
      × (reached_by size a reached (call_encipher_volume volume) ≡ reached)
