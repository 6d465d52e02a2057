-- The position that a checkpoint states is what the reader reads, where it reads one. Assumes nothing.
use mathlib.Core.Path.{◌≡◌, refl}
use mathlib.Core.List.{List}
use Prim.Native.Nat.{ℕ}
use lib.ListN.{drop}
use Rattle.std.specs.Prelude.{Some, None}
use Rattle.laws.specs.Result.{refused, accepted}
use Rattle.laws.proofs.Results.{no_refusal}
use Rattle.varint.specs.declared.Found.{Found}
use Rattle.varint.specs.Number.{Reading, is, ended, malformed, read_number}
use Rattle.checkpoint.specs.Checkpoint.{most_groups}
use Rattle.reader.specs.Readings.{found_in, position_of}
use Rattle.lab.specs.Tasks.{value, position_in}

value_of : (string : List ℕ) (r : Reading) (found : Found ℕ) → found_in string r ≡ accepted found → Some found.value ≡ value r
value_of string (is n rest) found e = cc
value_of string ended found e = absurd (cc)
value_of string malformed found e = absurd (cc)

none_of : (string : List ℕ) (r : Reading) (n : ℕ) → found_in string r ≡ refused n → None ≡ value r
none_of string (is m rest) n e = no_refusal e
none_of string ended n e = refl
none_of string malformed n e = refl

pub stated : (string : List ℕ) (found : Found ℕ) → position_of string ≡ accepted found → Some found.value ≡ position_in string
unfolding position_in
stated string found e = value_of string (read_number most_groups (drop 1 string)) found e

pub not_stated : (string : List ℕ) (n : ℕ) → position_of string ≡ refused n → None ≡ position_in string
unfolding position_in
not_stated string n e = none_of string (read_number most_groups (drop 1 string)) n e
