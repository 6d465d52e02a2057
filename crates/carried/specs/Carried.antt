-- Document 02 (c): the five indices of a step, carried from step to step. `CarriedIndices` in theorems/specs says that they are those of the step number
-- modulo T.
use Rattle.std.specs.Prelude.{cond, ℕ, ◌+◌, ◌%◌, eqb}
use Rattle.laws.specs.Iterate.{forward}
use Rattle.tables.specs.declared.Indices.{Indices}
use Rattle.tables.specs.Area.{indices_at}

-- an index one step on: it goes up by one, and the one that reaches T becomes 0
abbrev pub up : ℕ → ℕ → ℕ
up T k = cond (eqb (k + 1) T) 0 (k + 1)

-- the five one step on
abbrev pub carry : ℕ → Indices → Indices
carry T x = record {
  j = up T x.j;
  minus3 = up T x.minus3;
  minus10 = up T x.minus10;
  plus1 = up T x.plus1;
  minus12 = up T x.minus12;
}

-- the five n steps on
abbrev pub carried : ℕ → Indices → ℕ → Indices
carried T x n = forward (λ y k. carry T y) x 0 n

-- the five of step i + 1 of a cipher call, where x are those of step i: 'from the step number only at its first step and at the first of each turn of
-- T steps', and carried inside the turn
abbrev pub next_five : ℕ → Indices → ℕ → Indices
next_five T x i = cond (eqb ((i + 1) % T) 0) (indices_at T (i + 1)) (carry T x)

-- the five of step i + n of a cipher call whose first step is step i
abbrev pub five_of : ℕ → ℕ → ℕ → Indices
five_of T i n = forward (next_five T) (indices_at T i) i n
