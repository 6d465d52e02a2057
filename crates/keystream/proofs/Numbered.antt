-- The words of a call whose steps are taken with the carried five are those of the numbered steps, and so is the beginning of a word after them.
-- Assumes nothing.
use mathlib.Core.Path.{◌≡◌, refl, ap, ◌∙◌}
use mathlib.Core.List.{List}
use Prim.Native.Nat.{ℕ, zero, suc, ◌+◌, ◌<◌}
use native.Mathlib.Nat.{add-zero, add-suc}
use native.Mathlib.Omega.{arith}
use Rattle.laws.specs.Iterate.{forward}
use Rattle.cipher.specs.declared.Cipher.{Cipher}
use Rattle.cipher.specs.Numbers.{table_length}
use Rattle.tables.specs.declared.Indices.{Indices}
use Rattle.tables.specs.Area.{changes_p}
use Rattle.tables.specs.Step.{step, output}
use Rattle.carried.specs.Carried.{five_of}
use Rattle.carried.specs.Steps.{call_step, call_output}
use Rattle.carried.specs.Runs.{run_step, run_output}
use Rattle.carried.proofs.Steps.{run_step_lem, run_output_lem, call_step_lem, call_output_lem, five_within}
use Rattle.steps.specs.Steps.{steps, last_output}
use Rattle.keystream.specs.Stores.{last_of, Worded, Begun}
use Rattle.keystream.proofs.Words.{worded_same, begun_same}

pub words_numbered : (c : Cipher) (s bs : List ℕ) (i start n w : ℕ) {t bs' : List ℕ} {v : ℕ} → Worded (call_step c i) (call_output c i) s bs 0 start n w t bs' v
    → Worded (step c) (output c) s bs i start n w t bs' v
words_numbered c s bs i start n w =
    worded_same _ _ _ _ 0 i n
    (λ t k l. call_step_lem c i t (0 + k) ∙ ap (step c t) (omega arith))
    (λ t k l. call_output_lem c i t (0 + k) ∙ ap (output c t) (omega arith))
    s bs start w

pub begun_numbered : (c : Cipher) (s bs : List ℕ) (i n m w : ℕ) {x : Indices} {t bs' : List ℕ} {v : ℕ} → x ≡ five_of (table_length c) i n → m < 4
    → Begun (run_step c (changes_p (table_length c) (i + n)) x) (run_output c (changes_p (table_length c) (i + n)) x) s bs 0 m w t bs' v
    → Begun (step c) (output c) s bs (i + n) m w t bs' v
begun_numbered c s bs i n m w {x} e =
    let fit : x.j + 0 < table_length c = omega (arith, (five_within c i n e).j_in) in
    let end : i + (n + 0) ≡ i + n = omega arith in
    begun_same _ _ _ _ 0 (i + n)
    (λ t. run_step_lem c i n 0 e refl fit t ∙ call_step_lem c i t (n + 0) ∙ ap (step c t) end)
    (λ t. run_output_lem c i n 0 e refl fit t ∙ call_output_lem c i t (n + 0) ∙ ap (output c t) end)
    s bs m w

-- the last output, where w is the one before the steps
pub last_number : (c : Cipher) (w : ℕ) (s₀ s : List ℕ) (i n : ℕ) → w ≡ last_output c s₀ i → s ≡ steps c s₀ i n → last_of (output c) w s i n ≡ last_output c s (i + n)
unfolding last_of last_output forward
last_number c w s₀ s i zero e f = e ∙ rw (f, add-zero i) refl
last_number c w s₀ s i (suc n) e f = rw (add-suc i n) refl
