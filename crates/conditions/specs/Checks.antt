-- What the answer of load's conditions up to 11 says of the whole of load's conditions.
use Rattle.std.specs.Prelude.{List, ℕ, drop}
use Rattle.laws.specs.Result.{Result, ◌>>=◌}
use Rattle.conditions.specs.declared.Beginning.{Beginning}
use Rattle.conditions.specs.Conditions.{Contents, load_found}

-- the conditions up to 11 as they were answered, then the last one, 12, and what the checkpoint holds
abbrev pub load_from : (string : List ℕ) → Result Beginning → Result Contents
load_from string begun = do
  b ← begun
  load_found b.cipher b.position (drop b.next string)
