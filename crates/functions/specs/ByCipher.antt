-- The feedback and h by cipher and by whether P changes, as the code has them. Contracts below the engine cite it, and the steps that are taken with
-- given indices, `carried/specs/Steps.antt`.
use Rattle.std.specs.Prelude.{Bool, true, false, List, ℕ}
use Rattle.word.specs.Word.{◌⊞◌, ◌⊟◌}
use Rattle.cipher.specs.declared.Cipher.{Cipher}
use Rattle.cipher.specs.declared.Cipher.TheVariants.{Hc128, Hc256}
use Rattle.cipher.specs.Numbers.{table_length}
use Rattle.functions.specs.Functions.{table, start_b, rotation, g128, g256, h128, h256}

-- the feedback, where x, y and z are A[j-3], A[j-10] and A[j+1]
unfoldable pub feedback_of : Cipher → Bool → List ℕ → ℕ → ℕ → ℕ → ℕ
feedback_of Hc128 p s x y z = g128 (rotation p) x y z
feedback_of Hc256 p s x y z = y ⊞ g256 (table s (start_b 1024 p)) x z

-- h of the cipher, where B is the table that is looked up
unfoldable pub h_of : Cipher → (ℕ → ℕ) → ℕ → ℕ
h_of Hc128 B x = h128 B x
h_of Hc256 B x = h256 B x

-- h(x), where B is looked up in the area s
unfoldable pub filter_of : Cipher → Bool → List ℕ → ℕ → ℕ
filter_of c p s x = h_of c (table s (start_b (table_length c) p)) x

-- the word w with d put on it, or taken off where `back` holds
abbrev pub put : Bool → ℕ → ℕ → ℕ
put false w d = w ⊞ d
put true w d = w ⊟ d
