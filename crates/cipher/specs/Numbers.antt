-- Document 01: 'the numbers of a cipher are kept in one row each: its code, table length T, key bytes, IV bytes and expansion length'.
use Rattle.std.specs.Prelude.{cond, ℕ, ◌*◌, eqb}
use Rattle.std.proofs.Math.Option.{Option, none, some}
use Rattle.cipher.specs.declared.Cipher.{Cipher}
use Rattle.cipher.specs.declared.Cipher.TheVariants.{Hc128, Hc256}
use Rattle.cipher.specs.declared.Row.{Row}

abbrev pub row_of : Cipher → Row
row_of Hc128 = record { code = 1; table = 512; key = 16; iv = 16; expansion = 1280 }
row_of Hc256 = record { code = 2; table = 1024; key = 32; iv = 32; expansion = 2560 }

-- the cipher of a code, if there is one: the table is read by code
abbrev pub code_of : Cipher → ℕ
code_of c = (row_of c).code

unfoldable pub by_code : ℕ → Option Cipher
by_code code = cond (eqb code (code_of Hc128)) (some Hc128) (cond (eqb code (code_of Hc256)) (some Hc256) none)

-- T, the words of a table
abbrev pub table_length : Cipher → ℕ
table_length c = (row_of c).table

-- a table area has 2T words, P then Q
abbrev pub area_length : Cipher → ℕ
area_length c = 2 * table_length c

abbrev pub key_length : Cipher → ℕ
key_length c = (row_of c).key

abbrev pub iv_length : Cipher → ℕ
iv_length c = (row_of c).iv

abbrev pub expansion_length : Cipher → ℕ
expansion_length c = (row_of c).expansion
