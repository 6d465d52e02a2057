-- The keystream and the ciphering of bytes, byte by byte.
use Rattle.std.specs.Prelude.{◌≡◌, cond, List, [], ◌∷◌, ℕ, suc, ◌+◌, ◌/◌, ◌%◌, eqb, length}
use Rattle.laws.specs.Iterate.{forward}
use Rattle.word.specs.Word.{◌⊕◌}
use Rattle.word.specs.Bytes.{byte}
use Rattle.cipher.specs.declared.Cipher.{Cipher}
use Rattle.tables.specs.Step.{step, output}
use Rattle.steps.specs.Steps.{steps, word_at}

-- keystream byte p: byte p mod 4 of the output of step p/4, where s are the tables after that step
abbrev pub key_byte : Cipher → List ℕ → ℕ → ℕ
key_byte c s p = byte (p % 4) (output c s (p / 4))

-- keystream byte p, where s are the tables that set-up leaves
unfoldable pub keystream : Cipher → List ℕ → ℕ → ℕ
keystream c s p = key_byte c (steps c s 0 (p / 4 + 1)) p

-- the tables at position p + 1, where s are those at position p: a step is taken where a word begins
unfoldable pub tables_next : Cipher → List ℕ → ℕ → List ℕ
tables_next c s p = cond (eqb (p % 4) 0) (step c s (p / 4)) s

-- the tables n bytes on from position p
abbrev pub tables_after : Cipher → List ℕ → ℕ → ℕ → List ℕ
tables_after c = forward (tables_next c)

-- each byte's exclusive or with its keystream byte, from position p on, where s are the tables at p
unfoldable pub ciphered : Cipher → List ℕ → ℕ → List ℕ → List ℕ
ciphered c s p [] = []
ciphered c s p (b ∷ bs) = (b ⊕ key_byte c (tables_next c s p) p) ∷ ciphered c (tables_next c s p) (suc p) bs

-- the tables, the bytes and the word that a cipher call at position p leaves, where s are the tables at p and bs the bytes lent
abbrev pub CipheredFrom : Cipher → List ℕ → ℕ → List ℕ → List ℕ → List ℕ → ℕ → Type 0
CipheredFrom c s p bs stepped done word =
    (stepped ≡ tables_after c s p (length bs)) × (done ≡ ciphered c s p bs) × (word ≡ word_at c stepped (p + length bs))
