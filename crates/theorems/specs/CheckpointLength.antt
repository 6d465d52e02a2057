-- Document 02 (g): the length of a checkpoint, and write's condition for 8, for every head and area.
use Rattle.std.specs.Prelude.{◌≡◌, List, ◌↔◌, ℕ, ◌≤◌, ◌<◌, length}
use Rattle.cipher.specs.declared.Cipher.{Cipher}
use Rattle.cipher.specs.Numbers.{code_of}
use Rattle.varint.specs.Number.{number}
use Rattle.checkpoint.specs.Checkpoint.{length_of, longest}
use Rattle.laws.specs.Result.{refused, accepted}
use Rattle.conditions.specs.Limit.{limit}
use Rattle.engine.specs.declared.Head.{Head}
use Rattle.engine.specs.Head.{head_at}
use Rattle.engine.specs.Calls.{Written, head_ready, write, checkpoint_length}
use Rattle.theorems.specs.Demand3.{given}

pub record CheckpointLength : Type 0 where
  -- 'the groups of the position (1 to 4)'
  pub one_group : (position : ℕ) → position < 128 → length (number position) ≡ 1
  pub two_groups : (position : ℕ) → 128 ≤ position → position < 16384 → length (number position) ≡ 2
  pub three_groups : (position : ℕ) → 16384 ≤ position → position < 2097152 → length (number position) ≡ 3
  pub four_groups : (position : ℕ) → 2097152 ≤ position → position ≤ limit → length (number position) ≡ 4
  -- 'The length returned shall be exactly 1, plus the groups of the position (1 to 4), plus 4 times 2T'. It is the length of the string that is
  -- written, and what checkpoint length gives for the head's code and position.
  pub returned :
      (h : Head) (area lent : List ℕ) (w : Written) (c : Cipher)
      → head_ready h area ≡ accepted c → write h area lent ≡ accepted w
      → (w.length ≡ length_of c h.position) × (w.length ≡ length (given w))
      × (checkpoint_length h.code h.position ≡ accepted w.length)
  -- What checkpoint length gives is at most 4,101 or 8,197.
  pub at_most : (c : Cipher) (position n : ℕ) → checkpoint_length (code_of c) position ≡ accepted n → n ≤ longest c
  -- 'write's condition for 8 becomes fewer lent bytes than that': where none of 1, 4, 5 and 13 is the answer, write takes that many bytes and more, ..
  pub enough :
      (h : Head) (area lent : List ℕ) (c : Cipher) → head_ready h area ≡ accepted c
      → ((w : Written) × (write h area lent ≡ accepted w)) ↔ (length_of c h.position ≤ length lent)
  -- .. and answers 8 to fewer.
  pub too_few :
      (h : Head) (area lent : List ℕ) (c : Cipher) → head_ready h area ≡ accepted c
      → (write h area lent ≡ refused 8) ↔ (length lent < length_of c h.position)
  -- 'An HC-128 checkpoint at position 0 fits in 4,098 bytes ..
  pub fits_in_4098 :
      (mark : ℕ) (area lent : List ℕ) → length area ≡ 1024 → length lent ≡ 4098 → (w : Written) × (write (head_at 1 0 0 mark) area lent ≡ accepted w)
  -- .. and not in 4,097.'
  pub not_in_4097 : (mark : ℕ) (area lent : List ℕ) → length area ≡ 1024 → length lent ≡ 4097 → write (head_at 1 0 0 mark) area lent ≡ refused 8
