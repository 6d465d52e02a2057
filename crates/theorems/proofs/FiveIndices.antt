-- The five indices of a step are those of document 01. Assumes nothing.
use mathlib.Core.Path.{◌≡◌, refl}
use Prim.Native.Nat.{ℕ, ◌+◌, ◌-◌, ◌%◌, ◌≤◌}
use native.Mathlib.Omega.{arith}
use Rattle.cipher.specs.declared.Cipher.{Cipher}
use Rattle.cipher.specs.declared.Cipher.TheVariants.{Hc128, Hc256}
use Rattle.cipher.specs.Numbers.{table_length}
use Rattle.tables.proofs.Masks.{indices_within}
use Rattle.theorems.specs.FiveIndices.{FiveIndices}

-- n below j modulo T, and n on again
back_on : (c : Cipher) (i n : ℕ) → n ≤ 12 → ((i % table_length c + (table_length c - n)) % table_length c + n) % table_length c ≡ i % table_length c
back_on Hc128 i n l = omega arith
back_on Hc256 i n l = omega arith

one_on : (c : Cipher) (i : ℕ) → (i % table_length c + 1) % table_length c ≡ (i + 1) % table_length c
one_on Hc128 i = omega arith
one_on Hc256 i = omega arith

pub five_indices : FiveIndices
five_indices = record {
  inside = indices_within;
  j = λ c i. refl;
  minus3 = λ c i. back_on c i 3 (omega arith);
  minus10 = λ c i. back_on c i 10 (omega arith);
  plus1 = one_on;
  minus12 = λ c i. back_on c i 12 (omega arith);
}
