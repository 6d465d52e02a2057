-- Bytes that are all done are the ciphered bytes of the definition. Assumes nothing.
use mathlib.Core.Path.{◌≡◌, refl, sym, ap, ◌∙◌}
use mathlib.Core.List.{List, [], ◌∷◌}
use Prim.Native.Nat.{ℕ, zero, suc, ◌+◌, ◌-◌, ◌*◌, ◌/◌, ◌%◌, ◌<◌}
use native.Mathlib.Nat.{add-zero, add-suc, suc-add}
use native.Mathlib.Omega.{arith}
use lib.ListN.{length, get_or}
use lib.Seq.{ext_get_or}
use Rattle.laws.proofs.Iterate.{forward_one, forward_first}
use Rattle.word.specs.Word.{◌⊕◌}
use Rattle.word.specs.Bytes.{byte}
use Rattle.cipher.specs.declared.Cipher.{Cipher}
use Rattle.tables.specs.Step.{output}
use Rattle.steps.specs.Steps.{steps, steps_at}
use Rattle.keystream.specs.Keystream.{key_byte, tables_next, tables_after, ciphered}
use Rattle.keystream.proofs.Positions.{tables_after_lem}
use Rattle.keystream.proofs.Xored.{Xored}

-- the keystream byte at p + k, from the tables s at p
abbrev pub key_from : Cipher → List ℕ → ℕ → ℕ → ℕ
key_from c s p k = key_byte c (tables_after c s p (suc k)) (p + k)

pub length_ciphered : (c : Cipher) (s : List ℕ) (p : ℕ) (bs : List ℕ) → length (ciphered c s p bs) ≡ length bs
unfolding ciphered
length_ciphered c s p [] = refl
length_ciphered c s p (b ∷ bs) = ap suc (length_ciphered c (tables_next c s p) (suc p) bs)

pub ciphered_at : (c : Cipher) (s : List ℕ) (p : ℕ) (bs : List ℕ) (k : ℕ) → k < length bs
    → get_or (ciphered c s p bs) k 0 ≡ get_or bs k 0 ⊕ key_from c s p k
unfolding ciphered
ciphered_at c s p [] k l = absurd (omega arith)
ciphered_at c s p (b ∷ bs) zero l = rw (forward_one, add-zero)
ciphered_at c s p (b ∷ bs) (suc k) l =
    rw (forward_first (tables_next c) s p (suc k), add-suc p k, ← suc-add p k) (ciphered_at c (tables_next c s p) (suc p) bs k (omega arith))

pub all_done : (c : Cipher) (s : List ℕ) (p : ℕ) (bs out : List ℕ) → Xored (key_from c s p) bs out (length bs) → out ≡ ciphered c s p bs
all_done c s p bs out v =
    ext_get_or 0 out (ciphered c s p bs) (v.sized ∙ sym (length_ciphered c s p bs))
    (λ k l. let b : k < length bs = rw v.sized at l in v.done k b ∙ sym (ciphered_at c s p bs k b))

last_step : (p k : ℕ) → steps_at (p + suc k) ≡ suc ((p + k) / 4)
last_step p k = omega arith

-- byte r of the word of step i is the keystream byte at 4 i + r
pub key_from_lem : (c : Cipher) (s : List ℕ) (p k i r : ℕ) → p + k ≡ r + 4 * i → r < 4
    → byte r (output c (steps c s (steps_at p) (suc i - steps_at p)) i) ≡ key_from c s p k
key_from_lem c s p k i r e l =
    let q : (p + k) / 4 ≡ i = omega arith in
    let m : (p + k) % 4 ≡ r = omega arith in
    rw (tables_after_lem c s p (suc k), last_step p k, q, m)
