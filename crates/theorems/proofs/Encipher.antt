-- Enciphering a volume is the refusal of reading it, or the cipher call. Assumes nothing.
use mathlib.Core.Path.{◌≡◌, refl, sym}
use mathlib.Core.List.{List, [], ◌∷◌}
use Prim.Native.Nat.{ℕ, ◌≤◌}
use native.Mathlib.Omega.{arith}
use lib.ListN.{length}
use Rattle.laws.specs.Result.{Result, refused, accepted, ◌>>◌}
use Rattle.laws.proofs.Results.{no_refusal}
use Rattle.varint.specs.Number.{read_groups}
use Rattle.volume.specs.declared.Entry.{Entry}
use Rattle.volume.specs.Calls.{read_value, entries_in}
use Rattle.engine.specs.declared.Head.{Head}
use Rattle.engine.specs.Calls.{Ciphered, cipher, cipher_call, encipher_volume, encipher_volume_call}
use Rattle.engine.proofs.Calls as Calls

module _ (h : Head) (area volume : List ℕ) where
  pub volume_refused : (n : ℕ) → entries_in volume ≡ refused n → encipher_volume h area volume ≡ refused n
  unfolding encipher_volume
  volume_refused n e = rw e

  pub volume_ciphered : (entries : List Entry) → entries_in volume ≡ accepted entries → encipher_volume h area volume ≡ cipher h area volume
  unfolding encipher_volume
  volume_ciphered entries e = rw e

  pub call_ciphered : (entries : List Entry) → entries_in volume ≡ accepted entries → encipher_volume_call h area volume ≡ cipher_call h area volume
  call_ciphered entries e = sym (Calls.encipher_ciphers h area volume entries e)

-- an enciphering that is accepted is a cipher call that is accepted, of a volume
pub record Enciphered (h : Head) (area volume : List ℕ) (r : Ciphered) : Type 0 where
  pub entries : List Entry
  pub is_volume : entries_in volume ≡ accepted entries
  pub ciphers : cipher h area volume ≡ accepted r

read_first : (r : Result (List Entry)) (q : Result Ciphered) (c : Ciphered) → (r >> q) ≡ accepted c → (entries : List Entry) × (r ≡ accepted entries) × (q ≡ accepted c)
read_first (refused n) q c e = no_refusal (sym e)
read_first (accepted entries) q c e = (entries, refl, e)

pub enciphered : (h : Head) (area volume : List ℕ) (r : Ciphered) → encipher_volume h area volume ≡ accepted r → Enciphered h area volume r
unfolding encipher_volume
enciphered h area volume r e =
    let f = read_first (entries_in volume) (cipher h area volume) r e in record { entries = f.0; is_volume = f.1; ciphers = f.2 }

-- the empty string is no volume, so a volume has a byte at least
pub volume_some : (volume : List ℕ) (entries : List Entry) → entries_in volume ≡ accepted entries → 1 ≤ length volume
unfolding entries_in read_value read_groups
volume_some [] entries e = no_refusal (sym e)
volume_some (b ∷ volume) entries e = omega arith
