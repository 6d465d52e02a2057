-- Document 01: 'with j = i mod T and indices modulo T'. The five indices of a step are j, j - 3, j - 10, j + 1 and j - 12 modulo T: each is below T;
-- j and j + 1 are given outright, and each of the others with its number added is j modulo T.
use Rattle.std.specs.Prelude.{◌≡◌, ℕ, ◌+◌, ◌%◌}
use Rattle.cipher.specs.declared.Cipher.{Cipher}
use Rattle.cipher.specs.Numbers.{table_length}
use Rattle.tables.specs.Area.{indices_at, Within}

pub record FiveIndices : Type 0 where
  pub inside : (c : Cipher) (i : ℕ) → Within (table_length c) (indices_at (table_length c) i)
  pub j : (c : Cipher) (i : ℕ) → (indices_at (table_length c) i).j ≡ i % table_length c
  pub minus3 : (c : Cipher) (i : ℕ) → ((indices_at (table_length c) i).minus3 + 3) % table_length c ≡ i % table_length c
  pub minus10 : (c : Cipher) (i : ℕ) → ((indices_at (table_length c) i).minus10 + 10) % table_length c ≡ i % table_length c
  pub plus1 : (c : Cipher) (i : ℕ) → (indices_at (table_length c) i).plus1 ≡ (i + 1) % table_length c
  pub minus12 : (c : Cipher) (i : ℕ) → ((indices_at (table_length c) i).minus12 + 12) % table_length c ≡ i % table_length c
