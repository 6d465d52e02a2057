-- The cipher of a code is the one whose row has it, and no two ciphers share a code. Assumes nothing.
use mathlib.Core.Path.{◌≡◌, refl, ap}
use mathlib.Core.Bool.{Bool, true, false, cond}
use mathlib.Core.Option.{none, some}
use Prim.Native.Nat.{ℕ}
use native.Mathlib.Omega.{arith}
use borrow.Author.Tests.{eqb-true}
use lib.Dec.{eqb}
use Rattle.cipher.specs.declared.Cipher.{Cipher}
use Rattle.cipher.specs.declared.Cipher.TheVariants.{Hc128, Hc256}
use Rattle.cipher.specs.Numbers.{code_of, by_code}

pub code_of_lem : (c : Cipher) → by_code (code_of c) ≡ some c
unfolding by_code
code_of_lem Hc128 = refl
code_of_lem Hc256 = refl

pub same_code : (c d : Cipher) → code_of c ≡ code_of d → c ≡ d
same_code c d e = let p = code_of_lem c in let q = code_of_lem d in cc (ap by_code e)

picked : (code : ℕ) (a b : Bool) → eqb code 1 ≡ a → eqb code 2 ≡ b → (c : Cipher) → cond a (some Hc128) (cond b (some Hc256) none) ≡ some c
    → code ≡ code_of c
picked code true b p q Hc128 e = eqb-true code 1 p
picked code true b p q Hc256 e = let y : ◌≡◌ {A = ℕ} 0 1 = cc in absurd (omega arith)
picked code false true p q Hc256 e = eqb-true code 2 q
picked code false true p q Hc128 e = let y : ◌≡◌ {A = ℕ} 0 1 = cc in absurd (omega arith)
picked code false false p q c e = let y : ◌≡◌ {A = ℕ} 0 1 = cc in absurd (omega arith)

pub by_code_lem : (code : ℕ) (c : Cipher) → by_code code ≡ some c → code ≡ code_of c
unfolding by_code
by_code_lem code c e = picked code (eqb code 1) (eqb code 2) refl refl c e
