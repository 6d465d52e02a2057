-- Document 01, 'The account kept beside the engine': lists of calls, the account that they feed, and the checkpoint of a four. Document 02 (d) adds the
-- enciphering of a volume to the calls, and (h) the test load.
use Rattle.std.specs.Prelude.{◌≡◌, List, [], ◌∷◌, ℕ, ◌+◌, ◌≤◌, ℤ, length}
use Rattle.word.specs.Bytes.{AllBytes}
use Rattle.cipher.specs.declared.Cipher.{Cipher}
use Rattle.cipher.specs.Numbers.{code_of}
use Rattle.keys.specs.Key.{Pair}
use Rattle.steps.specs.Steps.{steps, steps_at}
use Rattle.setup.specs.SetUp as SetUp
use Rattle.laws.specs.Result.{Result, refused, accepted, ◌>>◌}
use Rattle.conditions.specs.Limit.{limit}
use Rattle.engine.specs.Head.{fresh_head}
use Rattle.conditions.specs.Conditions.{set_up_check, ready, cipher_check, move_check, load_check}
use Rattle.engine.specs.Calls.{Engine, engine_of, engine_at, set_up_call, cipher_call, encipher_volume_call, move_call, write_call, recover_call, load_call, spent_call}
use Rattle.volume.specs.Calls.{entries_in}
use Rattle.move_to.specs.MoveTo.{distance}
use Rattle.test_load.specs.Words.{GeneratedCall, move_to_byte, cipher_zeros, generated_calls}
use Rattle.test_load.specs.TestLoad.{seed_and_count, test_load_call}
use Rattle.checkpoint.specs.Checkpoint.{layout}

-- ── lists of calls ──

-- a call with its arguments other than head and area
pub data Call : Type 0 where
  call_set_up : (code : ℕ) (key iv : List ℕ) → Call
  call_cipher : (bytes : List ℕ) → Call
  call_encipher_volume : (volume : List ℕ) → Call
  call_move : (distance : ℤ) → Call
  call_write : (lent : List ℕ) → Call
  call_recover : (key iv : List ℕ) → Call
  call_load : (string : List ℕ) → Call
  call_spent : Call
  call_test_load : (seed count code : ℕ) (key iv : List ℕ) → Call

-- key, IV and string are bytes; demand 3 holds whatever the other lent bytes and numbers are, so nothing is asked of them
abbrev pub Given : Call → Type 0
Given (call_set_up code key iv) = AllBytes key × AllBytes iv
Given (call_load string) = AllBytes string
Given (call_cipher bytes) = Unit {0}
Given (call_encipher_volume volume) = Unit {0}
Given (call_move distance) = Unit {0}
Given (call_write lent) = Unit {0}
Given (call_recover key iv) = Unit {0}
Given call_spent = Unit {0}
Given (call_test_load seed count code key iv) = AllBytes key × AllBytes iv

abbrev pub AllGiven : List Call → Type 0
AllGiven [] = Unit {0}
AllGiven (call ∷ calls) = Given call × AllGiven calls

-- 'each call gets the head, and the area if it takes one, as the last one returned or left them'
unfoldable pub called : Engine → Call → Engine
called e (call_set_up code key iv) = (set_up_call e.head code key iv e.area).value
called e (call_cipher bytes) = (cipher_call e.head e.area bytes).value.engine
called e (call_encipher_volume volume) = (encipher_volume_call e.head e.area volume).value.engine
called e (call_move distance) = (move_call e.head e.area distance).value
called e (call_write lent) = (write_call e.head e.area lent).value.engine
called e (call_recover key iv) = (recover_call e.head e.area key iv).value.engine
called e (call_load string) = (load_call e.head string e.area).value.engine
called e call_spent = engine_of (spent_call e.head).value.head e.area
called e (call_test_load seed count code key iv) = (test_load_call e.head seed count code key iv e.area).value

-- the refusal number that a call answers then, 0 where it is accepted
unfoldable pub answered : Engine → Call → ℕ
answered e (call_set_up code key iv) = (set_up_call e.head code key iv e.area).refusal
answered e (call_cipher bytes) = (cipher_call e.head e.area bytes).refusal
answered e (call_encipher_volume volume) = (encipher_volume_call e.head e.area volume).refusal
answered e (call_move distance) = (move_call e.head e.area distance).refusal
answered e (call_write lent) = (write_call e.head e.area lent).refusal
answered e (call_recover key iv) = (recover_call e.head e.area key iv).refusal
answered e (call_load string) = (load_call e.head string e.area).refusal
answered e call_spent = (spent_call e.head).refusal
answered e (call_test_load seed count code key iv) = (test_load_call e.head seed count code key iv e.area).refusal

unfoldable pub run : List Call → Engine → Engine
run [] e = e
run (call ∷ calls) e = run calls (called e call)

-- ── the account ──

-- document 01's 'four': cipher, key, IV and position
pub record Four : Type 0 where
  pub cipher : Cipher
  pub key : List ℕ
  pub iv : List ℕ
  pub position : ℕ

-- key and IV of that cipher's lengths, and a position from 0 to the limit
pub record IsFour (f : Four) : Type 0 where
  pub pair : Pair f.cipher f.key f.iv
  pub within : f.position ≤ limit

-- 'it is empty or a four'
pub data Account : Type 0 where
  empty : Account
  holds : Four → Account

-- 'the account's code and position for the head's, both 0 while it is empty'
abbrev pub account_code : Account → ℕ
account_code empty = 0
account_code (holds f) = code_of f.cipher

abbrev pub account_position : Account → ℕ
account_position empty = 0
account_position (holds f) = f.position

-- the conditions 1, 4 and 5, read so; there is no 13, since the account has no word and no tables
abbrev pub account_ready : ℕ → Account → Result Cipher
account_ready size a = ready (account_code a) (account_position a) size

-- the same cipher, key and IV at another position
abbrev pub at_position : Four → ℕ → Four
at_position f position = record { cipher = f.cipher; key = f.key; iv = f.iv; position = position }

abbrev pub at : Account → ℕ → Account
at empty p = empty
at (holds f) p = holds (at_position f p)

-- 'a call that they refuse leaves the account', and whatever else is counted from the calls
abbrev pub unless_refused : {A B : Type 0} → B → Result A → (A → B) → B
unless_refused old (refused n) f = old
unless_refused old (accepted x) f = f x

-- the four that set up starts: 'the given cipher, key and IV with position 0'
abbrev pub at_start : Cipher → (key iv : List ℕ) → Four
at_start c key iv = record { cipher = c; key = key; iv = iv; position = 0 }

-- the account after a cipher call of n bytes, and after a move
abbrev pub feed_cipher : ℕ → Account → (n : ℕ) → Account
feed_cipher size a n = unless_refused a (cipher_check (account_ready size a) (account_position a) n) (λ c. at a (account_position a + n))

abbrev pub feed_move : ℕ → Account → (distance : ℤ) → Account
feed_move size a distance = unless_refused a (move_check (account_ready size a) (account_position a) distance) (λ m. at a m.end)

-- the account after the generated calls of a test load, one after the other: a move to a byte is one by the distance from the account's position
unfoldable pub feed_generated : ℕ → Account → List GeneratedCall → Account
feed_generated size a [] = a
feed_generated size a (move_to_byte byte ∷ calls) = feed_generated size (feed_move size a (distance (account_position a) byte)) calls
feed_generated size a (cipher_zeros n ∷ calls) = feed_generated size (feed_cipher size a n) calls

-- the account after one call, from the call's arguments and the area's size, and nothing else
unfoldable pub feed : ℕ → Account → Call → Account
feed size a (call_set_up code key iv) =
    unless_refused a (set_up_check code (length key) (length iv) size) (λ c. holds (at_start c key iv))
feed size a (call_cipher bytes) = feed_cipher size a (length bytes)
-- document 02 (d): 'a cipher call in the account', whose conditions are those of reading, 8 excepted, and then those of a cipher call
feed size a (call_encipher_volume volume) =
    unless_refused a (entries_in volume >> cipher_check (account_ready size a) (account_position a) (length volume))
    (λ c. at a (account_position a + length volume))
feed size a (call_move distance) = feed_move size a distance
-- 'Load makes it the four whose checkpoint the string is': load's conditions find that four by undoing. `feed_load` of Demand3 says that it is the
-- one whose checkpoint the string is, and `feed_else` that the account stays where the string is the checkpoint of none.
feed size a (call_load string) =
    unless_refused a (load_check string size)
    (λ l. holds (record { cipher = l.cipher; key = l.key; iv = l.iv; position = l.position }))
feed size a (call_write lent) = a
feed size a (call_recover key iv) = a
feed size a call_spent = a
-- document 02 (h): 'For the account .. it is that set-up and those calls.' Its conditions are 17 and 18, and then those of set up.
feed size a (call_test_load seed count code key iv) =
    unless_refused a (seed_and_count seed count >> set_up_check code (length key) (length iv) size)
    (λ c. feed_generated size (holds (at_start c key iv)) (generated_calls seed count))

unfoldable pub account : ℕ → List Call → Account → Account
account size [] a = a
account size (call ∷ calls) a = account size calls (feed size a call)

-- 'a list begins with a fresh head, an empty account and an area of any size and content'
abbrev pub engine_after : List Call → List ℕ → Engine
engine_after calls area = run calls (engine_of fresh_head area)

abbrev pub account_after : List Call → List ℕ → Account
account_after calls area = account (length area) calls empty

-- ── checkpoints ──

-- 'the tables that set-up with its key and IV, then the steps of that position, give'
unfoldable pub tables_of : Four → List ℕ
tables_of f = steps f.cipher (SetUp.set_up f.cipher f.key f.iv) 0 (steps_at f.position)

-- those tables, and the head of that code and position with the word that the tables have there; the mark is no part of a four
abbrev pub engine_of_four : Four → (mark : ℕ) → Engine
engine_of_four f mark = engine_at (code_of f.cipher) f.cipher f.position mark (tables_of f)

unfoldable pub checkpoint_of : Four → List ℕ
checkpoint_of f = layout f.cipher f.position (tables_of f)

-- the string is the checkpoint of the four
pub record Checkpoint (string : List ℕ) (f : Four) : Type 0 where
  pub is_four : IsFour f
  pub string_is : string ≡ checkpoint_of f
