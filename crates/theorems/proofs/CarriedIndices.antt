-- The carried five are those of the step number, and steps taken with them are the numbered steps. Assumes nothing.
use mathlib.Core.Path.{◌≡◌, refl, sym, ap, ap₂, ◌∙◌}
use mathlib.Core.List.{List}
use Prim.Native.Nat.{ℕ, suc, ◌+◌, ◌-◌, ◌/◌, ◌%◌, ◌<◌}
use native.Mathlib.Omega.{arith}
use lib.ListN.{length, get_or}
use Rattle.laws.specs.Iterate.{forward}
use Rattle.laws.proofs.Iterate.{forward_same}
use Rattle.word.specs.Word.{◌⊕◌}
use Rattle.word.specs.Bytes.{byte}
use Rattle.cipher.specs.declared.Cipher.{Cipher}
use Rattle.tables.specs.Step.{step, output}
use Rattle.carried.specs.Steps.{call_step, call_output}
use Rattle.carried.proofs.Five.{carried_is, five_is}
use Rattle.carried.proofs.Steps.{step_with_lem, output_with_lem, call_step_lem, call_output_lem}
use Rattle.steps.specs.Steps.{steps, steps_at}
use Rattle.keystream.specs.Keystream.{ciphered}
use Rattle.keystream.proofs.Positions.{tables_after_lem, moved_on}
use Rattle.keystream.proofs.Ciphered.{ciphered_at}
use Rattle.theorems.specs.CarriedIndices.{CarriedIndices}

-- n numbered steps are the first n steps of a call
numbered : (c : Cipher) (s : List ℕ) (i n : ℕ) → steps c s i n ≡ forward (call_step c i) s 0 n
numbered c s i n = sym (forward_same (call_step c i) (step c) s 0 i n (λ t k. call_step_lem c i t (0 + k) ∙ ap (step c t) (omega arith)))

-- after the byte at p + k, which step m of the call gives, m + 1 steps are taken
taken : (p k m : ℕ) → (p + k) / 4 ≡ steps_at p + m → steps_at (p + suc k) - steps_at p ≡ m + 1
taken p k m e = omega arith

bytes_ciphered : (c : Cipher) (s : List ℕ) (p : ℕ) (bs : List ℕ) (k m : ℕ) → k < length bs → (p + k) / 4 ≡ steps_at p + m
    → get_or (ciphered c s p bs) k 0 ≡ get_or bs k 0 ⊕ byte ((p + k) % 4) (call_output c (steps_at p) (forward (call_step c (steps_at p)) s 0 (m + 1)) m)
bytes_ciphered c s p bs k m l e =
    let i = steps_at p in
    let tables = tables_after_lem c s p (suc k) ∙ ap (steps c s i) (taken p k m e) ∙ numbered c s i (m + 1) in
    ciphered_at c s p bs k l
    ∙ ap (λ (w : ℕ). get_or bs k 0 ⊕ byte ((p + k) % 4) w) (ap₂ (λ (t : List ℕ) (j : ℕ). output c t j) tables e ∙ sym (call_output_lem c i _ m))

pub carried_indices : CarriedIndices
carried_indices = record {
  carried_on = carried_is;
  at_every_step = five_is;
  step_is = λ c s i. step_with_lem c s i refl refl;
  output_is = λ c s i. output_with_lem c s i refl refl;
  call_step_is = call_step_lem;
  call_output_is = call_output_lem;
  tables_moved = λ c s p n. moved_on c s p n ∙ tables_after_lem c s p n ∙ numbered c s (steps_at p) _;
  bytes_ciphered = bytes_ciphered;
}
