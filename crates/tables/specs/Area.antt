-- The table area: 2T words, P then Q; and where step i reads it.
use Rattle.std.specs.Prelude.{◌≡◌, Bool, true, false, List, ℕ, ◌+◌, ◌-◌, ◌*◌, ◌%◌, ◌<◌, ltb, length}
use Rattle.word.specs.Bytes.{AllWords}
use Rattle.cipher.specs.declared.Cipher.{Cipher}
use Rattle.cipher.specs.Numbers.{area_length}
use Rattle.tables.specs.declared.Indices.{Indices}

-- an area of a cipher
pub record Area (c : Cipher) (s : List ℕ) : Type 0 where
  pub sized : length s ≡ area_length c
  pub words : AllWords s

-- 'if i mod 2T < T, P changes and Q is looked up, else the roles swap'
abbrev pub changes_p : ℕ → ℕ → Bool
changes_p T i = ltb (i % (2 * T)) T

-- where the changing table A begins, by whether P changes
abbrev pub start_a : ℕ → Bool → ℕ
start_a T true = 0
start_a T false = T

-- 'with j = i mod T and indices modulo T': the five that a step reads; n below j modulo T is written (j + (T - n)) mod T. `FiveIndices`
-- in theorems/specs says that they are document 01's.
abbrev pub indices_at : ℕ → ℕ → Indices
indices_at T i = record {
  j = i % T;
  minus3 = (i % T + (T - 3)) % T;
  minus10 = (i % T + (T - 10)) % T;
  plus1 = (i % T + 1) % T;
  minus12 = (i % T + (T - 12)) % T;
}

-- indices of a table of T words
pub record Within (T : ℕ) (x : Indices) : Type 0 where
  pub j_in : x.j < T
  pub minus3_in : x.minus3 < T
  pub minus10_in : x.minus10 < T
  pub plus1_in : x.plus1 < T
  pub minus12_in : x.minus12 < T

-- the places in the area of five indices of the table that changes, where p tells whether P changes
abbrev pub places : ℕ → Bool → Indices → Indices
places T p x = record {
  j = start_a T p + x.j;
  minus3 = start_a T p + x.minus3;
  minus10 = start_a T p + x.minus10;
  plus1 = start_a T p + x.plus1;
  minus12 = start_a T p + x.minus12;
}
