-- Document 01, 'Checkpoint': 'the reader carries the string it walks and how far it has come'. What it reads, and how far it comes.
use Rattle.std.specs.Prelude.{List, [], ◌∷◌, ℕ, ◌-◌, length, drop}
use Rattle.laws.specs.Result.{Result, refused, accepted}
use Rattle.varint.specs.declared.Found.{Found}
use Rattle.varint.specs.Number.{Reading, is, ended, malformed, read_number}
use Rattle.checkpoint.specs.Checkpoint.{most_groups}
use Rattle.reader.specs.declared.Reader.{Reader}

-- a byte at the start of a string
abbrev pub read_byte : List ℕ → Reading
read_byte [] = ended
read_byte (b ∷ rest) = is b rest

-- what was read in a string: a value leads to the place where the bytes after it start.
-- 9: the string ends before the last group, or has no byte. 10: a fourth group announces another, or the last of two or more groups is 0.
abbrev pub found_in : (string : List ℕ) → Reading → Result (Found ℕ)
found_in string (is value rest) = accepted (record { value = value; next = length string - length rest })
found_in string ended = refused 9
found_in string malformed = refused 10

abbrev pub byte_at : (string : List ℕ) (place : ℕ) → Result (Found ℕ)
byte_at string place = found_in string (read_byte (drop place string))

abbrev pub number_at : (string : List ℕ) (place : ℕ) → Result (Found ℕ)
number_at string place = found_in string (read_number most_groups (drop place string))

-- what a reader has read
abbrev pub value_in : Result (Found ℕ) → Result ℕ
value_in (accepted found) = accepted found.value
value_in (refused n) = refused n

-- how far it has come: where there is no value its place stays
abbrev pub come : Reader → Result (Found ℕ) → Reader
come reader (accepted found) = record { string = reader.string; place = found.next }
come reader (refused n) = reader

-- the position of a checkpoint, which follows the code byte, and the place after it
abbrev pub position_of : List ℕ → Result (Found ℕ)
position_of string = number_at string 1
