-- Document 01, 'Calls, with their refusals in order': the conditions that engine and account share, those of recover, and those of a head alone,
-- which spent and checkpoint length have. The engine reads them with the head's code, position and word and with the tables; the account of demand 3 with
-- its own code and position and the area's size, and so without the 13 that document 02 (a) puts straight after 5. Write's 8 is in the engine's Calls.
-- Those of load are also read without an area, for document 02 (m).
use Rattle.std.specs.Prelude.{List, [], ◌∷◌, ℕ, ◌+◌, ◌*◌, eqb, leb, ℤ, pos, negsuc, ◌+ℤ◌, length, drop}
use Rattle.std.proofs.Math.Option.{Option, none, some}
use Rattle.word.specs.Bytes.{words}
use Rattle.cipher.specs.declared.Cipher.{Cipher}
use Rattle.cipher.specs.Numbers.{by_code, area_length, key_length, iv_length}
use Rattle.steps.specs.Steps.{steps_back, steps_at, word_at}
use Rattle.setup.specs.SetUp as SetUp
use Rattle.setup.specs.SetUp.{Undone, undo}
use Rattle.varint.specs.Number.{Reading, is, ended, malformed, read_number}
use Rattle.checkpoint.specs.Checkpoint.{most_groups}
use Rattle.laws.specs.Result.{Result, refused, accepted, ◌>>=◌, ◌>>◌, refuse◌unless◌, refuse◌without◌}
use Rattle.conditions.specs.Limit.{limit}

-- **Set up** 1: cipher code is neither 1 nor 2. 2: key length. 3: IV length. 4: area is not 2T words.
unfoldable pub set_up_check : (code keySize ivSize size : ℕ) → Result Cipher
set_up_check code keySize ivSize size = do
  c ← refuse 1 without by_code code
  refuse 2 unless eqb keySize (key_length c)
  refuse 3 unless eqb ivSize (iv_length c)
  refuse 4 unless eqb size (area_length c)
  accepted c

-- 1: head's code. 4: area. 5: position over the limit.
unfoldable pub ready : (code position size : ℕ) → Result Cipher
ready code position size = do
  c ← refuse 1 without by_code code
  refuse 4 unless eqb size (area_length c)
  refuse 5 unless leb position limit
  accepted c

-- 1, 4, 5. 13: the head's word is not the one that the tables have at this position.
unfoldable pub ready_with_word : (code position word : ℕ) (area : List ℕ) → Result Cipher
ready_with_word code position word area = do
  c ← ready code position (length area)
  refuse 13 unless eqb word (word_at c area position)
  accepted c

-- 1: head's code. 5: position over the limit.
unfoldable pub head_check : (code position : ℕ) → Result Cipher
head_check code position = do
  c ← refuse 1 without by_code code
  refuse 5 unless leb position limit
  accepted c

-- **Cipher** `begun` is the result of the conditions before: 1, 4, 5, and in the engine 13. 6: the end would pass the limit.
unfoldable pub cipher_check : (begun : Result Cipher) (position n : ℕ) → Result Cipher
cipher_check begun position n = do
  c ← begun
  refuse 6 unless leb (position + n) limit
  accepted c

-- where a move by a signed distance ends. 7: the end would be below 0. 6: the end would pass the limit.
abbrev pub within : ℤ → Result ℕ
within (negsuc n) = refused 7
within (pos n) = do
  refuse 6 unless leb n limit
  accepted n

unfoldable pub end_of : ℕ → ℤ → Result ℕ
end_of position distance = within (pos position +ℤ distance)

-- **Move** `begun` is the result of the conditions before: 1, 4, 5, and in the engine 13. 7, 6.
pub record Course : Type 0 where
  pub cipher : Cipher
  pub end : ℕ

unfoldable pub move_check : (begun : Result Cipher) (position : ℕ) (distance : ℤ) → Result Course
move_check begun position distance = do
  c ← begun
  end ← end_of position distance
  accepted (record { cipher = c; end = end })

-- the key and the IV that have these tables at this position: the steps undone, then set-up
unfoldable pub undo_at : Cipher → List ℕ → ℕ → Undone
undo_at c s position = undo c (steps_back c s 0 (steps_at position))

pub record KeyAndIv : Type 0 where
  pub key : List ℕ
  pub iv : List ℕ

-- 12: no key and IV have these tables at this position. Here it is given where undoing finds none; `Refusal12` in theorems/specs says that this is
-- so exactly where none have them.
abbrev pub found_or12 : Undone → Result KeyAndIv
found_or12 SetUp.none = refused 12
found_or12 (SetUp.found key iv) = accepted (record { key = key; iv = iv })

-- **Recover** 1, 4, 5, 13. 2, 3: buffer length is not the cipher's. 12.
unfoldable pub recover_check : (code position word : ℕ) (area : List ℕ) (keySize ivSize : ℕ) → Result KeyAndIv
recover_check code position word area keySize ivSize = do
  c ← ready_with_word code position word area
  refuse 2 unless eqb keySize (key_length c)
  refuse 3 unless eqb ivSize (iv_length c)
  found_or12 (undo_at c area position)

-- the position of a checkpoint. 10: a fourth group announces another. 9: the string ends before the last group. 10: the last of two or more
-- groups is 0.
pub record PositionRead : Type 0 where
  pub position : ℕ
  pub rest : List ℕ

abbrev pub position_read : Reading → Result PositionRead
position_read (is value rest) = accepted (record { position = value; rest = rest })
position_read ended = refused 9
position_read malformed = refused 10

abbrev pub first_byte : List ℕ → Option ℕ
first_byte [] = none
first_byte (b ∷ string) = some b

-- what a checkpoint holds, with the key and the IV of its tables
pub record Contents : Type 0 where
  pub cipher : Cipher
  pub key : List ℕ
  pub iv : List ℕ
  pub position : ℕ
  pub area : List ℕ

-- the last condition of load, 12, and what the checkpoint holds
abbrev pub load_found : Cipher → ℕ → List ℕ → Result Contents
load_found c position rest = do
  pair ← found_or12 (undo_at c (words rest) position)
  accepted (record { cipher = c; key = pair.key; iv = pair.iv; position = position; area = words rest })

-- what a checkpoint begins with. 9: no bytes. 1: first byte.
unfoldable pub cipher_in : (string : List ℕ) → Result Cipher
cipher_in string = do
  code ← refuse 9 without first_byte string
  refuse 1 without by_code code

-- what comes after the first byte, for this cipher. 10, 9, 10: the position. 5: over the limit. 11: the bytes left are not 4 times 2T. 12.
unfoldable pub contents_in : (c : Cipher) (string : List ℕ) → Result Contents
contents_in c string = do
  read ← position_read (read_number most_groups (drop 1 string))
  refuse 5 unless leb read.position limit
  refuse 11 unless eqb (length read.rest) (4 * area_length c)
  load_found c read.position read.rest

-- **Load** 9, 1. 4: area. 10, 9, 10, 5, 11, 12.
unfoldable pub load_check : (string : List ℕ) (size : ℕ) → Result Contents
load_check string size = do
  c ← cipher_in string
  refuse 4 unless eqb size (area_length c)
  contents_in c string

-- Document 02 (m), 'what load refuses of a string': 9, 1, 10, 9, 10, 5, 11, 12. There is no 4, since no area is lent.
unfoldable pub string_check : (string : List ℕ) → Result Contents
string_check string = do
  c ← cipher_in string
  contents_in c string
