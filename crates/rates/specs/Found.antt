-- What the code passes on while it reads a table. Only contracts below the calls cite it.
use Rattle.std.specs.Prelude.{List, ℕ, drop}
use Rattle.varint.specs.declared.Found.{Found}
use Rattle.rates.specs.declared.Pair.{Pair}
use Rattle.rates.specs.Calls.{PairRead}

-- a pair that was found in a string; the place after it stands for the bytes from there on
abbrev pub pair_from : List ℕ → Found Pair → PairRead
pair_from string found = record { pair = found.value; rest = drop found.next string }
