-- A checkpoint of a stream, and nothing else, opens the stream's log from byte 0 and gives its key and IV.
use Rattle.std.specs.Prelude.{◌≡◌, ℕ, ◌≤◌, max, length}
use mathlib.Core.List.{List, [], ◌∷◌, ◌++◌, flatten}
use Rattle.cipher.specs.Numbers.{code_of, area_length, key_length, iv_length}
use Rattle.setup.specs.SetUp as SetUp
use Rattle.checkpoint.specs.Checkpoint.{length_of}
use Rattle.laws.specs.Lent.{put_first}
use Rattle.laws.specs.Result.{accepted, Outcome}
use Rattle.conditions.specs.Limit.{limit}
use Rattle.engine.specs.Head.{fresh_head, head_at, with_mark}
use Rattle.engine.specs.declared.Head.{Head}
use Rattle.engine.specs.Calls.{Engine, engine_of, Ciphered, Written, set_up_call, cipher_call, load_call, spent}
use Rattle.theorems.specs.Account.{Four, IsFour, at_position, Checkpoint, engine_of_four, checkpoint_of}
use Rattle.lab.specs.Tasks.{cipher_of, open_checkpoint, write_at, rewrite_at, recover_from}

-- what a cipher call on what is left of another call leaves
abbrev pub cipher_after : Outcome Engine → List ℕ → Outcome Ciphered
cipher_after l bytes = cipher_call l.value.head l.value.area bytes

-- what is written of bytes that come in parts: each part is ciphered on what the one before left
unfoldable pub streamed : Engine → List (List ℕ) → List ℕ
streamed e [] = []
streamed e (part ∷ parts) =
    (cipher_call e.head e.area part).value.bytes ++ streamed (cipher_call e.head e.area part).value.engine parts

-- the engine that such parts leave
unfoldable pub engine_streamed : Engine → List (List ℕ) → Engine
engine_streamed e [] = e
engine_streamed e (part ∷ parts) = engine_streamed (cipher_call e.head e.area part).value.engine parts

-- spent is accepted for a head, and gives this count
abbrev pub Spends : Head → ℕ → Type 0
Spends h n = spent h ≡ accepted (record { head = h; count = n })

-- the engine of a four with a mark, and lent bytes that begin with the checkpoint of the four; later bytes stay
abbrev pub checkpoint_put : Four → (mark : ℕ) → List ℕ → Outcome Written
checkpoint_put f mark lent =
    record {
      refusal = 0;
      value = record {
        engine = engine_of_four f mark;
        length = length (checkpoint_of f);
        lent = put_first (checkpoint_of f) lent;
      };
    }

pub record FromCheckpoint : Type 0 where
  -- Opening is refused exactly as load is: after an accepted load the move back is never refused.
  pub refused_by_load : (string area : List ℕ) → (open_checkpoint string area).refusal ≡ (load_call fresh_head string area).refusal
  -- The area is that of the cipher of the checkpoint.
  pub cipher_is_lem : (string : List ℕ) (f : Four) → Checkpoint string f → cipher_of string ≡ f.cipher
  -- The checkpoint of any four opens: the head is at position 0 with word 0, and the tables are those of set-up with that key and IV. The mark is the
  -- position of the checkpoint, where the load started it; the move back leaves it.
  pub opens :
      (string area : List ℕ) (f : Four) → Checkpoint string f → length area ≡ area_length f.cipher
      → open_checkpoint string area
      ≡ record {
        refusal = 0;
        value = engine_of (head_at (code_of f.cipher) 0 0 f.position) (SetUp.set_up f.cipher f.key f.iv);
      }
  -- So opening it leaves what set up with that key and IV leaves, everything but the mark.
  pub as_set_up :
      (string area : List ℕ) (f : Four) → Checkpoint string f → length area ≡ area_length f.cipher
      → let made = set_up_call fresh_head (code_of f.cipher) f.key f.iv area in
      open_checkpoint string area
      ≡ record { refusal = made.refusal; value = engine_of (with_mark made.value.head f.position) made.value.area }
  -- What `describe` says is spent is the position of the checkpoint, where a load starts the mark.
  pub spent_loaded :
      (string area : List ℕ) (f : Four) → Checkpoint string f → length area ≡ area_length f.cipher
      → Spends (load_call fresh_head string area).value.engine.head f.position
  -- After `open` has deciphered a log in parts of any lengths, spent is the larger of the position of the checkpoint and the end of the log.
  pub spent_opened :
      (string area : List ℕ) (parts : List (List ℕ)) (f : Four) → Checkpoint string f → length area ≡ area_length f.cipher
      → length (flatten parts) ≤ limit
      → Spends (engine_streamed (open_checkpoint string area).value parts).head (max f.position (length (flatten parts)))
  -- A log that was enciphered with the key and the IV is deciphered with nothing but the checkpoint; one that passes the limit both calls leave.
  pub deciphers :
      (string area log : List ℕ) (f : Four) → Checkpoint string f → length area ≡ area_length f.cipher
      → let enciphered = (cipher_after (set_up_call fresh_head (code_of f.cipher) f.key f.iv area) log).value.bytes in
      (cipher_after (open_checkpoint string area) enciphered).value.bytes ≡ log
  -- So it is where the enciphered log comes in parts of any lengths.
  pub in_parts :
      (string area log : List ℕ) (parts : List (List ℕ)) (f : Four) → Checkpoint string f → length area ≡ area_length f.cipher
      → length log ≤ limit
      → flatten parts ≡ (cipher_after (set_up_call fresh_head (code_of f.cipher) f.key f.iv area) log).value.bytes
      → streamed (open_checkpoint string area).value parts ≡ log
  -- The key and the IV are recovered.
  pub recovers :
      (string area key iv : List ℕ) (f : Four) → Checkpoint string f → length area ≡ area_length f.cipher
      → length key ≡ key_length f.cipher → length iv ≡ iv_length f.cipher
      → recover_from string area key iv
      ≡ record {
        refusal = 0;
        value = record {
          engine = engine_of_four f f.position;
          key = f.key;
          iv = f.iv;
        };
      }
  -- Written with a key and an IV, the lent bytes begin with the checkpoint of that cipher, key, IV and position; the mark is 0, where set up starts
  -- it.
  pub writes :
      (area lent : List ℕ) (f : Four) → IsFour f → length area ≡ area_length f.cipher
      → length_of f.cipher f.position ≤ length lent
      → write_at (code_of f.cipher) f.key f.iv area f.position lent ≡ checkpoint_put f 0 lent
  -- Written from a checkpoint, they begin with that of the same cipher, key and IV at the other position; the mark is the position of the first.
  pub rewrites :
      (string area lent : List ℕ) (f : Four) (position : ℕ) → Checkpoint string f → length area ≡ area_length f.cipher
      → position ≤ limit → length_of f.cipher position ≤ length lent
      → rewrite_at string area position lent ≡ checkpoint_put (at_position f position) f.position lent
