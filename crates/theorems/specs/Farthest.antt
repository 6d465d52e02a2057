-- Document 02 (b): 'the farthest byte that any cipher call reached since the last set-up or load', from the calls and the area's size alone. It is
-- counted beside the account, whose code and position the calls' conditions are read with; it takes nothing from head and tables.
use Rattle.std.specs.Prelude.{List, [], ◌∷◌, ℕ, zero, suc, ◌+◌, max, length}
use Rattle.laws.specs.Result.{◌>>◌}
use Rattle.volume.specs.Calls.{entries_in}
use Rattle.conditions.specs.Conditions.{set_up_check, cipher_check, load_check}
use Rattle.move_to.specs.MoveTo.{distance}
use Rattle.test_load.specs.Words.{GeneratedCall, move_to_byte, cipher_zeros, generated_calls}
use Rattle.test_load.specs.TestLoad.{seed_and_count}
use Rattle.theorems.specs.Account.{Call, call_set_up, call_cipher, call_encipher_volume, call_move, call_write, call_recover, call_load, call_spent, call_test_load, Account, empty, holds, account_position, account_ready, unless_refused, at_start, feed_cipher, feed_move, feed}

-- a cipher call of one byte or more reaches its end, and one of no bytes reaches nothing
abbrev pub with_end : (n end : ℕ) → List ℕ → List ℕ
with_end zero end reached = reached
with_end (suc n) end reached = end ∷ reached

-- what has been reached after a cipher call of n bytes
abbrev pub reached_by_cipher : ℕ → Account → List ℕ → (n : ℕ) → List ℕ
reached_by_cipher size a reached n =
    unless_refused reached (cipher_check (account_ready size a) (account_position a) n) (λ c. with_end n (account_position a + n) reached)

-- what has been reached after the generated calls of a test load, one after the other
unfoldable pub reached_by_generated : ℕ → Account → List ℕ → List GeneratedCall → List ℕ
reached_by_generated size a reached [] = reached
reached_by_generated size a reached (move_to_byte byte ∷ calls) =
    reached_by_generated size (feed_move size a (distance (account_position a) byte)) reached calls
reached_by_generated size a reached (cipher_zeros n ∷ calls) =
    reached_by_generated size (feed_cipher size a n) (reached_by_cipher size a reached n) calls

-- what has been reached after one more call, where the account was `a` before it: 'a set-up starts it at 0, a load at the loaded position, and a move
-- leaves it'
unfoldable pub reached_by : ℕ → Account → List ℕ → Call → List ℕ
reached_by size a reached (call_set_up code key iv) =
    unless_refused reached (set_up_check code (length key) (length iv) size) (λ c. 0 ∷ [])
reached_by size a reached (call_load string) = unless_refused reached (load_check string size) (λ l. l.position ∷ [])
reached_by size a reached (call_cipher bytes) = reached_by_cipher size a reached (length bytes)
-- document 02 (d): 'a cipher call .. for the mark'
reached_by size a reached (call_encipher_volume volume) =
    unless_refused reached (entries_in volume >> cipher_check (account_ready size a) (account_position a) (length volume))
    (λ c. with_end (length volume) (account_position a + length volume) reached)
reached_by size a reached (call_move distance) = reached
reached_by size a reached (call_write lent) = reached
reached_by size a reached (call_recover key iv) = reached
reached_by size a reached call_spent = reached
-- document 02 (h): 'For .. the mark it is that set-up and those calls.'
reached_by size a reached (call_test_load seed count code key iv) =
    unless_refused reached (seed_and_count seed count >> set_up_check code (length key) (length iv) size)
    (λ c. reached_by_generated size (holds (at_start c key iv)) (0 ∷ []) (generated_calls seed count))

-- where the last accepted set up or load of a list started, and the ends of the accepted cipher calls since then, last first; a test load is its set up
-- and its generated calls
unfoldable pub reached_since : ℕ → List Call → Account → List ℕ → List ℕ
reached_since size [] a reached = reached
reached_since size (call ∷ calls) a reached = reached_since size calls (feed size a call) (reached_by size a reached call)

-- the largest of these numbers
unfoldable pub largest : List ℕ → ℕ
largest [] = 0
largest (n ∷ numbers) = max (largest numbers) n

-- the farthest byte after a list of calls that begins with a fresh head, an empty account and this area
abbrev pub farthest_after : List Call → List ℕ → ℕ
farthest_after calls area = largest (reached_since (length area) calls empty [])
