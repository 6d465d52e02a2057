-- The position of a checkpoint as the reader gives it is the one of the conditions. Assumes nothing.
use mathlib.Core.Path.{◌≡◌}
use mathlib.Core.List.{List}
use Prim.Native.Nat.{ℕ}
use lib.ListN.{drop}
use Rattle.laws.specs.Result.{accepted}
use Rattle.varint.specs.declared.Found.{Found}
use Rattle.varint.specs.Number.{read_number}
use Rattle.checkpoint.specs.Checkpoint.{most_groups}
use Rattle.reader.specs.Readings.{position_of}
use Rattle.reader.proofs.Positions.{position_cases}
use Rattle.conditions.specs.Conditions.{position_read}

pub position_read_lem : (string : List ℕ) (found : Found ℕ) → accepted found ≡ position_of string
    → position_read (read_number most_groups (drop 1 string)) ≡ accepted (record { position = found.value; rest = drop found.next string })
position_read_lem string found =
    position_cases string
    (λ r f. accepted found ≡ r → position_read f ≡ accepted (record { position = found.value; rest = drop found.next string }))
    (λ value next l h e. cc)
    (λ e. cc)
    (λ e. cc)
