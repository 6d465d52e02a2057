-- Document 02 (c), 'Neighbours carried along'. That the five of `indices_at` are j, j - 3, j - 10, j + 1 and j - 12 modulo T is `FiveIndices`.
use Rattle.std.specs.Prelude.{◌≡◌, List, ℕ, ◌+◌, ◌-◌, ◌/◌, ◌%◌, ◌<◌, length, get_or}
use Rattle.laws.specs.Iterate.{forward}
use Rattle.word.specs.Word.{◌⊕◌}
use Rattle.word.specs.Bytes.{byte}
use Rattle.cipher.specs.declared.Cipher.{Cipher}
use Rattle.cipher.specs.Numbers.{table_length}
use Rattle.tables.specs.Area.{changes_p, indices_at}
use Rattle.tables.specs.Step.{step, output}
use Rattle.carried.specs.Carried.{carried, five_of}
use Rattle.carried.specs.Steps.{step_with, output_with, call_step, call_output}
use Rattle.steps.specs.Steps.{steps_at, moved}
use Rattle.keystream.specs.Keystream.{ciphered}

pub record CarriedIndices : Type 0 where
  -- the five of any step, carried n times, are those of the step n later, also where one wraps
  pub carried_on : (c : Cipher) (i n : ℕ) → carried (table_length c) (indices_at (table_length c) i) n ≡ indices_at (table_length c) (i + n)
  -- 'at every step of every cipher call the carried five are those of its number modulo T, also where one wraps': step i is the call's first
  pub at_every_step : (c : Cipher) (i n : ℕ) → five_of (table_length c) i n ≡ indices_at (table_length c) (i + n)
  -- a step that is taken with the five of its number is that step, and its output that step's
  pub step_is : (c : Cipher) (s : List ℕ) (i : ℕ) → step_with c (changes_p (table_length c) i) s (indices_at (table_length c) i) ≡ step c s i
  pub output_is : (c : Cipher) (s : List ℕ) (i : ℕ) → output_with c (changes_p (table_length c) i) s (indices_at (table_length c) i) ≡ output c s i
  -- so step n of a cipher call, taken with the five that it has carried there, is step i + n
  pub call_step_is : (c : Cipher) (i : ℕ) (s : List ℕ) (n : ℕ) → call_step c i s n ≡ step c s (i + n)
  pub call_output_is : (c : Cipher) (i : ℕ) (s : List ℕ) (n : ℕ) → call_output c i s n ≡ output c s (i + n)
  -- the tables that a cipher call of n bytes at position p leaves are those of its steps, each taken with the five that it has carried there
  pub tables_moved : (c : Cipher) (s : List ℕ) (p n : ℕ) → moved c s p (p + n) ≡ forward (call_step c (steps_at p)) s 0 (steps_at (p + n) - steps_at p)
  -- and each byte that it ciphers past the word that p is inside has its keystream byte from such an output: step m of the call is step (p + k)/4
  pub bytes_ciphered : (c : Cipher) (s : List ℕ) (p : ℕ) (bs : List ℕ) (k m : ℕ) → k < length bs → (p + k) / 4 ≡ steps_at p + m
      → get_or (ciphered c s p bs) k 0
      ≡ get_or bs k 0 ⊕ byte ((p + k) % 4) (call_output c (steps_at p) (forward (call_step c (steps_at p)) s 0 (m + 1)) m)
