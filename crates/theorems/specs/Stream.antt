-- Ciphering is with the keystream of the papers, wherever in the stream it starts: demand 2's first half, said of the tables.
use Rattle.std.specs.Prelude.{◌≡◌, List, ℕ, ◌+◌, ◌<◌, length, get_or}
use Rattle.word.specs.Word.{◌⊕◌}
use Rattle.cipher.specs.declared.Cipher.{Cipher}
use Rattle.steps.specs.Steps.{steps, steps_at}
use Rattle.keystream.specs.Keystream.{keystream, tables_after, ciphered}

-- s are the tables that set-up leaves, so that `steps c s 0 (steps_at p)` are those at position p
pub record Stream : Type 0 where
  -- byte k of what is ciphered from position p on is the exclusive or of the plain byte with keystream byte p + k
  pub ciphered_bytes : (c : Cipher) (s : List ℕ) (p : ℕ) (bs : List ℕ) (k : ℕ) → k < length bs
      → get_or (ciphered c (steps c s 0 (steps_at p)) p bs) k 0 ≡ get_or bs k 0 ⊕ keystream c s (p + k)
  -- n bytes on, the tables are those of position p + n
  pub tables_left : (c : Cipher) (s : List ℕ) (p n : ℕ) → tables_after c (steps c s 0 (steps_at p)) p n ≡ steps c s 0 (steps_at (p + n))
