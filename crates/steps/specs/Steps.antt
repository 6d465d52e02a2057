-- Many steps of a cipher, forward and back, how many a byte position stands for, and the word of a position.
use Rattle.std.specs.Prelude.{cond, List, ℕ, zero, suc, ◌+◌, ◌-◌, ◌/◌, leb}
use Rattle.laws.specs.Iterate.{forward, backward}
use Rattle.cipher.specs.declared.Cipher.{Cipher}
use Rattle.tables.specs.Step.{step, step_back, output}

-- the steps i to i + n - 1
abbrev pub steps : Cipher → List ℕ → ℕ → ℕ → List ℕ
steps c = forward (step c)

-- the steps i to i + n - 1 undone, last first
abbrev pub steps_back : Cipher → List ℕ → ℕ → ℕ → List ℕ
steps_back c = backward (step_back c)

-- 'at position p the tables have taken p/4 steps since set-up, rounded up'
abbrev pub steps_at : ℕ → ℕ
steps_at p = (p + 3) / 4

-- the tables at position q, where s are those at position p
unfoldable pub moved : Cipher → List ℕ → ℕ → ℕ → List ℕ
moved c s p q =
    cond (leb (steps_at p) (steps_at q))
    (steps c s (steps_at p) (steps_at q - steps_at p))
    (steps_back c s (steps_at q) (steps_at p - steps_at q))

-- the output of the last of n steps taken, from the tables s after it; 0 where none is taken
unfoldable pub last_output : Cipher → List ℕ → ℕ → ℕ
last_output c s zero = 0
last_output c s (suc i) = output c s i

-- Document 02 (a), the word of position p: 'it is the output of the last step taken, and 0 at position 0', where s are the tables at p
abbrev pub word_at : Cipher → List ℕ → ℕ → ℕ
word_at c s p = last_output c s (steps_at p)
