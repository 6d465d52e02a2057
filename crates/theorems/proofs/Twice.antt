-- Ciphering twice from the same head and tables gives the bytes back. Assumes nothing.
use mathlib.Core.Path.{◌≡◌, refl}
use mathlib.Core.List.{List, [], ◌∷◌}
use Prim.Native.Nat.{ℕ, suc}
use Rattle.word.proofs.Laws.{xor_xor}
use Rattle.cipher.specs.declared.Cipher.{Cipher}
use Rattle.keystream.specs.Keystream.{ciphered, tables_next, key_byte}

pub ciphered_twice : (c : Cipher) (s : List ℕ) (p : ℕ) (bytes : List ℕ) → ciphered c s p (ciphered c s p bytes) ≡ bytes
unfolding ciphered
ciphered_twice c s p [] = refl
ciphered_twice c s p (b ∷ bytes) =
    let first = xor_xor b (key_byte c (tables_next c s p) p) in
    let rest = ciphered_twice c (tables_next c s p) (suc p) bytes in
    cc
