-- Runs, steps of one turn in which no index wraps, and steps one by one: how the code goes about it. Only contracts below the engine cite it.
use Rattle.std.specs.Prelude.{◌≡◌, Bool, cond, List, ℕ, ◌+◌, ◌-◌, ◌<◌, ltb}
use Rattle.cipher.specs.declared.Cipher.{Cipher}
use Rattle.cipher.specs.Numbers.{table_length}
use Rattle.tables.specs.declared.Indices.{Indices}
use Rattle.carried.specs.Carried.{carried}
use Rattle.carried.specs.Steps.{step_with, output_with}

-- the five one step on, where none reaches T
abbrev pub carry_unwrapped : Indices → Indices
carry_unwrapped x = record { j = x.j + 1; minus3 = x.minus3 + 1; minus10 = x.minus10 + 1; plus1 = x.plus1 + 1; minus12 = x.minus12 + 1 }

-- none of the five reaches T in n steps
pub record NoneWraps (T : ℕ) (x : Indices) (n : ℕ) : Type 0 where
  pub j_in : x.j + n < T
  pub minus3_in : x.minus3 + n < T
  pub minus10_in : x.minus10 + n < T
  pub plus1_in : x.plus1 + n < T
  pub minus12_in : x.minus12 + n < T

-- a number of steps in which none of the five of a step wraps: those up to where j + 1 does, and 0 where one has wrapped already
abbrev pub before_wrap : ℕ → Indices → ℕ
before_wrap T x = cond (ltb x.minus12 x.plus1) (T - 1 - x.plus1) 0

-- the area and the output that a step with the five x leaves
abbrev pub Taken : Cipher → Bool → List ℕ → Indices → List ℕ → ℕ → Type 0
Taken c p s x stepped out = (stepped ≡ step_with c p s x) × (out ≡ output_with c p stepped x)

-- step k of a run that begins with the five x: the five are carried k times
abbrev pub run_step : Cipher → Bool → Indices → List ℕ → ℕ → List ℕ
run_step c p x s k = step_with c p s (carried (table_length c) x k)

abbrev pub run_output : Cipher → Bool → Indices → List ℕ → ℕ → ℕ
run_output c p x s k = output_with c p s (carried (table_length c) x k)
