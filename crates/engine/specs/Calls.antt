-- The seven calls of document 01, and of document 02 the length of a checkpoint (g) and the enciphering of a volume (d), as definitions of their
-- inputs. Each has its result, which is the refusal or what an accepted call gives, and its outcome, which says what it leaves, refused or not: head,
-- area and every lent list.
use Rattle.std.specs.Prelude.{List, ◌++◌, ℕ, ◌+◌, ◌-◌, leb, ℤ, length, replicate}
use Rattle.word.specs.Bytes.{words}
use Rattle.cipher.specs.declared.Cipher.{Cipher}
use Rattle.cipher.specs.Numbers.{code_of}
use Rattle.steps.specs.Steps.{moved, word_at}
use Rattle.keystream.specs.Keystream.{ciphered}
use Rattle.volume.specs.Calls.{entries_in}
use Rattle.setup.specs.SetUp as SetUp
use Rattle.checkpoint.specs.Checkpoint.{layout, length_of}
use Rattle.laws.specs.Lent.{put_first}
use Rattle.laws.specs.Result.{Result, accepted, Outcome, outcome, ◌>>=◌, ◌>>◌, refuse◌unless◌}
use Rattle.conditions.specs.Conditions.{set_up_check, ready_with_word, head_check, cipher_check, move_check, recover_check, load_check}
use Rattle.engine.specs.declared.Head.{Head}
use Rattle.engine.specs.Head.{head_at, mark_after}

-- a head and its table area
pub record Engine : Type 0 where
  pub head : Head
  pub area : List ℕ

abbrev pub engine_of : Head → List ℕ → Engine
engine_of head area = record { head = head; area = area }

-- the area of a cipher at a position, with a head of this code and mark that carries the word of that position: 'every call that changes the state
-- keeps it true'
abbrev pub engine_at : (code : ℕ) → Cipher → (position mark : ℕ) → List ℕ → Engine
engine_at code c position mark area = engine_of (head_at code position (word_at c area position) mark) area

-- the conditions that cipher, move and write begin with, of a head and its area: 1, 4, 5, 13. Recover begins with them in `recover_check`.
abbrev pub head_ready : Head → List ℕ → Result Cipher
head_ready h area = ready_with_word h.code h.position h.word area

-- **Set up** takes cipher code, key, IV and area; the position becomes 0, and the mark starts at 0.
unfoldable pub set_up : (code : ℕ) (key iv area : List ℕ) → Result Engine
set_up code key iv area = do
  c ← set_up_check code (length key) (length iv) (length area)
  accepted (engine_at code c 0 0 (SetUp.set_up c key iv))

unfoldable pub set_up_call : (head : Head) (code : ℕ) (key iv area : List ℕ) → Outcome Engine
set_up_call h code key iv area = outcome (engine_of h area) (set_up code key iv area)

pub record Ciphered : Type 0 where
  pub engine : Engine
  pub bytes : List ℕ

-- **Cipher** replaces each lent byte by its exclusive or with the keystream byte and advances by their number. A call of one byte or more makes the
-- mark the larger of the mark and its own end.
unfoldable pub cipher : (head : Head) (area bytes : List ℕ) → Result Ciphered
cipher h area bytes = do
  c ← cipher_check (head_ready h area) h.position (length bytes)
  let end = h.position + length bytes
  accepted
      (record {
        engine = engine_at h.code c end (mark_after h.mark end (length bytes)) (moved c area h.position end);
        bytes = ciphered c area h.position bytes;
      })

unfoldable pub cipher_call : (head : Head) (area bytes : List ℕ) → Outcome Ciphered
cipher_call h area bytes = outcome (record { engine = engine_of h area; bytes = bytes }) (cipher h area bytes)

-- **Encipher volume** (document 02 (d)) 'enciphers a written volume in its buffer, a cipher call in the account and for the mark'. It 'refuses as
-- reading does, 8 excepted, then as a cipher call does', and where both accept it is that cipher call.
unfoldable pub encipher_volume : (head : Head) (area volume : List ℕ) → Result Ciphered
encipher_volume h area volume = do
  entries_in volume
  cipher h area volume

unfoldable pub encipher_volume_call : (head : Head) (area volume : List ℕ) → Outcome Ciphered
encipher_volume_call h area volume = outcome (record { engine = engine_of h area; bytes = volume }) (encipher_volume h area volume)

-- **Move** takes a signed 64-bit distance in bytes. It leaves the mark.
unfoldable pub move : (head : Head) (area : List ℕ) (distance : ℤ) → Result Engine
move h area distance = do
  m ← move_check (head_ready h area) h.position distance
  accepted (engine_at h.code m.cipher m.end h.mark (moved m.cipher area h.position m.end))

unfoldable pub move_call : (head : Head) (area : List ℕ) (distance : ℤ) → Outcome Engine
move_call h area distance = outcome (engine_of h area) (move h area distance)

pub record Written : Type 0 where
  pub engine : Engine
  pub length : ℕ
  pub lent : List ℕ

-- **Write** puts the checkpoint at the start of the lent bytes and returns its length; later bytes stay. 1, 4, 5, 13. 8: fewer lent bytes than its
-- length.
unfoldable pub write : (head : Head) (area lent : List ℕ) → Result Written
write h area lent = do
  c ← head_ready h area
  let n = length_of c h.position
  refuse 8 unless leb n (length lent)
  accepted (record { engine = engine_of h area; length = n; lent = put_first (layout c h.position area) lent })

unfoldable pub write_call : (head : Head) (area lent : List ℕ) → Outcome Written
write_call h area lent = outcome (record { engine = engine_of h area; length = 0; lent = lent }) (write h area lent)

-- **Checkpoint length** tells a caller how many bytes to lend for the checkpoint of a cipher at a position. 1: code. 5: position.
unfoldable pub checkpoint_length : (code position : ℕ) → Result ℕ
checkpoint_length code position = do
  c ← head_check code position
  accepted (length_of c position)

unfoldable pub checkpoint_length_call : (code position : ℕ) → Outcome ℕ
checkpoint_length_call code position = outcome 0 (checkpoint_length code position)

pub record Recovered : Type 0 where
  pub engine : Engine
  pub key : List ℕ
  pub iv : List ℕ

-- **Recover** fills key and IV buffers; the tables stay.
unfoldable pub recover : (head : Head) (area key iv : List ℕ) → Result Recovered
recover h area key iv = do
  pair ← recover_check h.code h.position h.word area (length key) (length iv)
  accepted (record { engine = engine_of h area; key = pair.key; iv = pair.iv })

unfoldable pub recover_call : (head : Head) (area key iv : List ℕ) → Outcome Recovered
recover_call h area key iv = outcome (record { engine = engine_of h area; key = key; iv = iv }) (recover h area key iv)

-- eight words of a key or an IV, unused words 0
abbrev pub eight_words : List ℕ → List ℕ
eight_words bytes = words bytes ++ replicate (8 - length (words bytes)) 0

pub record Loaded : Type 0 where
  pub engine : Engine
  pub key : List ℕ
  pub iv : List ℕ

-- **Load** fills area and head and returns the key and IV as eight words each, unused words 0. The mark starts at the loaded position.
unfoldable pub load : (string area : List ℕ) → Result Loaded
load string area = do
  l ← load_check string (length area)
  accepted
      (record {
        engine = engine_at (code_of l.cipher) l.cipher l.position l.position l.area;
        key = eight_words l.key;
        iv = eight_words l.iv;
      })

-- the sixteen words of a refused load are 0
unfoldable pub load_call : (head : Head) (string area : List ℕ) → Outcome Loaded
load_call h string area = outcome (record { engine = engine_of h area; key = replicate 8 0; iv = replicate 8 0 }) (load string area)

pub record Counted : Type 0 where
  pub head : Head
  pub count : ℕ

-- **Spent** returns the farthest byte that any cipher call reached since the last set up or load, which is the head's mark, taken as given. 1: head's
-- code. 5: position.
unfoldable pub spent : (head : Head) → Result Counted
spent h = do
  head_check h.code h.position
  accepted (record { head = h; count = h.mark })

unfoldable pub spent_call : (head : Head) → Outcome Counted
spent_call h = outcome (record { head = h; count = 0 }) (spent h)
