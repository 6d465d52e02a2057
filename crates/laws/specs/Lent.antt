-- A list at the start of lent elements; later elements stay.
use Rattle.std.specs.Prelude.{List, ◌++◌, ℕ, length, drop}

abbrev pub put_first : (list lent : List ℕ) → List ℕ
put_first list lent = list ++ drop (length list) lent
