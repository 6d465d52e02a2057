-- The bounds of the two rows' numbers. Assumes nothing.
use Prim.Native.Nat.{◌≤◌}
use native.Mathlib.Omega.{arith}
use Rattle.cipher.specs.declared.Cipher.{Cipher}
use Rattle.cipher.specs.declared.Cipher.TheVariants.{Hc128, Hc256}
use Rattle.cipher.specs.Numbers.{table_length, area_length, key_length, iv_length, expansion_length}

pub sizes : (c : Cipher)
    → (area_length c ≤ 2048) × (key_length c ≤ 32) × (iv_length c ≤ 32) × (512 ≤ table_length c) × (table_length c ≤ 1024) × (expansion_length c ≤ 2560)
sizes Hc128 = omega arith
sizes Hc256 = omega arith
