-- A table of the area is a part of the area. Assumes nothing.
use mathlib.Core.Path.{◌≡◌}
use mathlib.Core.List.{List}
use Prim.Native.Nat.{ℕ, ◌+◌, ◌-◌}
use native.Mathlib.Nat.{zero-add}
use native.Mathlib.Omega.{arith}
use lib.ListN.{length, get_or, take, drop, length-drop}
use lib.Seq.{take_all, get_or-drop}
use Rattle.functions.specs.Functions.{table}

pub part_table : (s : List ℕ) (b : ℕ) → table (take (length s - b) (drop b s)) 0 ≡ table s b
part_table s b = λ i k. at k i
  where
    at : (k : ℕ) → get_or (take (length s - b) (drop b s)) (0 + k) 0 ≡ get_or s (b + k) 0
    at k = rw (take_all (length s - b) (drop b s) (omega (arith, length-drop b s)), zero-add k) (get_or-drop b s k 0)
