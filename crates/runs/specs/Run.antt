-- A run: steps of one turn whose indices do not wrap. It says how the code goes about it; only contracts below the engine cite it.
use Rattle.std.specs.Prelude.{◌≡◌, Bool, cond, List, ℕ, ◌+◌, ◌-◌, ◌%◌, ◌≤◌, ◌<◌, ltb, length}
use Rattle.cipher.specs.declared.Cipher.{Cipher}
use Rattle.cipher.specs.Numbers.{table_length, area_length}
use Rattle.tables.specs.Area.{changes_p}

-- the steps i to i + n - 1, for tables of T words: A[j-12] of the first and A[j+1] of the last stand in the same turn
pub record Run (T i n : ℕ) : Type 0 where
  pub not_first : 12 ≤ i % T
  pub not_last : i % T + n < T

-- a step of a run on the area s: k is its number and also the place of A[j], and p tells whether P changes
pub record At (c : Cipher) (s : List ℕ) (p : Bool) (k : ℕ) : Type 0 where
  pub sized : length s ≡ area_length c
  pub half : p ≡ changes_p (table_length c) k
  pub not_first : 12 ≤ k % table_length c
  pub not_last : k % table_length c + 1 < table_length c
  pub above : 12 ≤ k
  pub below : k + 1 < area_length c

-- how many steps from step i on are a run, and how many before it
abbrev pub run_from : ℕ → ℕ → ℕ
run_from T i = cond (ltb (i % T) 12) 0 (T - 1 - i % T)

abbrev pub run_before : ℕ → ℕ → ℕ
run_before T i = i % T - 12
