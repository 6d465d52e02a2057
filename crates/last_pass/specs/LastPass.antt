-- Document 01, 'Set-up ends so', and step 3 of section 2.2 of both papers: set-up's last pass over the filled area, and its inverse.
use Rattle.std.specs.Prelude.{List, ℕ, set}
use Rattle.laws.specs.Iterate.{forward, backward}
use Rattle.word.specs.Word.{◌⊞◌, ◌⊟◌, ◌⊕◌}
use Rattle.cipher.specs.declared.Cipher.{Cipher}
use Rattle.cipher.specs.declared.Cipher.TheVariants.{Hc128, Hc256}
use Rattle.tables.specs.Step.{feedback, filter, place, changing, step, step_back}

-- HC-128: 'for j = 0 to 511 in P, then in Q, A[j] becomes (A[j] + g(..)) ^ h(A[j-12])', as change i = 0 to 1,023
-- HC-256: '4,096 steps with no output'
unfoldable pub change : Cipher → List ℕ → ℕ → List ℕ
change Hc128 s i = set s (place Hc128 i) ((changing Hc128 s i ⊞ feedback Hc128 s i) ⊕ filter Hc128 s i)
change Hc256 s i = step Hc256 s i

abbrev pub changes : Cipher → ℕ
changes Hc128 = 1024
changes Hc256 = 4096

unfoldable pub last_pass : Cipher → List ℕ → List ℕ
last_pass c s = forward (change c) s 0 (changes c)

-- change i undone, and the whole pass undone
unfoldable pub change_back : Cipher → List ℕ → ℕ → List ℕ
change_back Hc128 s i = set s (place Hc128 i) ((changing Hc128 s i ⊕ filter Hc128 s i) ⊟ feedback Hc128 s i)
change_back Hc256 s i = step_back Hc256 s i

unfoldable pub undo_last_pass : Cipher → List ℕ → List ℕ
undo_last_pass c s = backward (change_back c) s 0 (changes c)
