-- What is ciphered at position p of a stream is the bytes with that stream's keystream from byte p on. Assumes nothing.
use mathlib.Core.Path.{◌≡◌, ap, ◌∙◌}
use mathlib.Core.List.{List}
use Prim.Native.Nat.{ℕ, suc, ◌+◌, ◌/◌, ◌<◌}
use native.Mathlib.Omega.{arith}
use lib.ListN.{length, get_or}
use Rattle.laws.proofs.Iterate.{forward_from}
use Rattle.word.specs.Word.{◌⊕◌}
use Rattle.cipher.specs.declared.Cipher.{Cipher}
use Rattle.tables.specs.Step.{step}
use Rattle.steps.specs.Steps.{steps, steps_at}
use Rattle.steps.proofs.Moved.{steps_up}
use Rattle.keystream.specs.Keystream.{key_byte, keystream, tables_after, ciphered}
use Rattle.keystream.proofs.Positions.{tables_after_lem}
use Rattle.keystream.proofs.Ciphered.{ciphered_at}

last_word : (p k : ℕ) → steps_at (p + suc k) ≡ (p + k) / 4 + 1
last_word p k = omega arith

-- s₀ are the tables that set-up leaves
module _ (c : Cipher) (s₀ : List ℕ) (p : ℕ) where
  pub tables_at : (n : ℕ) → tables_after c (steps c s₀ 0 (steps_at p)) p n ≡ steps c s₀ 0 (steps_at (p + n))
  tables_at n =
      tables_after_lem c (steps c s₀ 0 (steps_at p)) p n ∙ forward_from (step c) s₀ (steps_at p) (steps_at (p + n)) (steps_up p n)

  pub ciphered_keystream : (bs : List ℕ) (k : ℕ) → k < length bs
      → get_or (ciphered c (steps c s₀ 0 (steps_at p)) p bs) k 0 ≡ get_or bs k 0 ⊕ keystream c s₀ (p + k)
  unfolding keystream
  ciphered_keystream bs k l =
      ciphered_at c (steps c s₀ 0 (steps_at p)) p bs k l
      ∙ ap (λ (s : List ℕ). get_or bs k 0 ⊕ key_byte c s (p + k)) (tables_at (suc k) ∙ ap (steps c s₀ 0) (last_word p k))
