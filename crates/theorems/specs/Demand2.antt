-- Demand 2, said of the calls: after any list of calls head and tables are those of the account's cipher, key, IV and position, ciphering is with
-- the keystream of that key and IV, recover gives them, and a move back restores head and tables, 'everything but the mark' (document 02 (b)), which
-- is the farthest byte of `Farthest`.
use Rattle.std.specs.Prelude.{◌≡◌, List, ℕ, ◌+◌, ◌≤◌, ◌<◌, ℤ, pos, neg_ℤ, ◌+ℤ◌, length, get_or}
use Rattle.word.specs.Word.{◌⊕◌}
use Rattle.word.specs.Bytes.{AllWords}
use Rattle.cipher.specs.declared.Cipher.{Cipher}
use Rattle.cipher.specs.Numbers.{code_of, area_length, key_length, iv_length}
use Rattle.keys.specs.Key.{Pair}
use Rattle.keystream.specs.Keystream.{keystream}
use Rattle.setup.specs.SetUp as SetUp
use Rattle.engine.specs.declared.Head.{Head}
use Rattle.laws.specs.Result.{accepted}
use Rattle.conditions.specs.Limit.{limit}
use Rattle.engine.specs.Head.{fresh_head, with_mark}
use Rattle.engine.specs.Calls.{Engine, engine_of, Ciphered, set_up, cipher, move, recover, spent}
use Rattle.theorems.specs.Account.{Call, AllGiven, Four, at_position, empty, holds, engine_after, account_after, engine_of_four}
use Rattle.theorems.specs.Farthest.{farthest_after}

pub record Demand2 : Type 0 where
  -- After every list whose account is a four, the head has that code and position, the word that the tables have there and, as its mark, the farthest
  -- byte that a cipher call reached since the last set up or load, and the tables are those of the four; where the account is empty, head and area
  -- are what they were at first.
  pub state :
      (calls : List Call) → AllGiven calls → (area : List ℕ) (f : Four) → account_after calls area ≡ holds f
      → engine_after calls area ≡ engine_of_four f (farthest_after calls area)
  pub untouched :
      (calls : List Call) → AllGiven calls → (area : List ℕ) → account_after calls area ≡ empty
      → engine_after calls area ≡ engine_of fresh_head area
  -- Set up is accepted for every key and IV of a cipher's lengths, on every area of its size, and leaves head and tables of position 0, and mark 0.
  pub set_up_accepted :
      (c : Cipher) (key iv area : List ℕ) → Pair c key iv → length area ≡ area_length c
      → set_up (code_of c) key iv area ≡ accepted (engine_of_four (record { cipher = c; key = key; iv = iv; position = 0 }) 0)
  -- Spent gives the farthest byte that a cipher call reached since the last set up or load whenever the account is a four.
  pub spent_is :
      (calls : List Call) → AllGiven calls → (area : List ℕ) (f : Four) → account_after calls area ≡ holds f
      → spent (engine_after calls area).head ≡ accepted (record { head = (engine_after calls area).head; count = farthest_after calls area })
  -- A cipher call that ends within the limit is accepted whenever the account is a four.
  pub cipherable :
      (calls : List Call) → AllGiven calls → (area bytes : List ℕ) (f : Four) → account_after calls area ≡ holds f
      → f.position + length bytes ≤ limit
      → (r : Ciphered) × (cipher (engine_after calls area).head (engine_after calls area).area bytes ≡ accepted r)
  -- A move to an earlier byte gives the state that held there, and a move to a later one the state that will hold there: every move that ends within
  -- the stream is accepted and leaves head and tables of the four at its end, and the mark as it was; no other move is accepted.
  pub movable :
      (calls : List Call) → AllGiven calls → (area : List ℕ) (d : ℤ) (f : Four) (end : ℕ) → account_after calls area ≡ holds f
      → pos f.position +ℤ d ≡ pos end → end ≤ limit
      → move (engine_after calls area).head (engine_after calls area).area d ≡ accepted (engine_of_four (at_position f end) (farthest_after calls area))
  pub moved :
      (calls : List Call) → AllGiven calls → (area : List ℕ) (d : ℤ) (f : Four) (e : Engine) → account_after calls area ≡ holds f
      → move (engine_after calls area).head (engine_after calls area).area d ≡ accepted e
      → (end : ℕ) × (pos f.position +ℤ d ≡ pos end) × (end ≤ limit) × (e ≡ engine_of_four (at_position f end) (farthest_after calls area))
  -- The byte enciphered at a position is the exclusive or of the plain byte with that keystream byte of the account's cipher, key and IV.
  pub enciphered :
      (calls : List Call) → AllGiven calls → (area bytes : List ℕ) (f : Four) → account_after calls area ≡ holds f
      → (r : Ciphered) → cipher (engine_after calls area).head (engine_after calls area).area bytes ≡ accepted r
      → (i : ℕ) → i < length bytes
      → get_or r.bytes i 0 ≡ get_or bytes i 0 ⊕ keystream f.cipher (SetUp.set_up f.cipher f.key f.iv) (f.position + i)
  -- Recover gives the account's key and IV.
  pub recovered :
      (calls : List Call) → AllGiven calls → (area key iv : List ℕ) (f : Four) → account_after calls area ≡ holds f
      → length key ≡ key_length f.cipher → length iv ≡ iv_length f.cipher
      → recover (engine_after calls area).head (engine_after calls area).area key iv
      ≡ accepted (record { engine = engine_after calls area; key = f.key; iv = f.iv })
  -- Ciphering keeps the number of bytes.
  pub as_long : (h : Head) (area bytes : List ℕ) (r : Ciphered) → cipher h area bytes ≡ accepted r → length r.bytes ≡ length bytes
  -- Where a move by d is accepted, so is the move back by -d, and it restores head, word included, and tables; the mark is what it was, since neither
  -- move changes it.
  pub moved_back :
      (h : Head) (area : List ℕ) (d : ℤ) (there : Engine) → AllWords area → move h area d ≡ accepted there
      → move there.head there.area (neg_ℤ d) ≡ accepted (engine_of h area)
  -- Where n bytes are ciphered, the move back by n is accepted and restores head and tables, 'everything but the mark', which stays as the cipher
  -- call left it. From there, as from the head before, ciphering the bytes that the call left gives back the bytes that were lent.
  pub ciphered_back :
      (h : Head) (area bytes : List ℕ) (r : Ciphered) → AllWords area → cipher h area bytes ≡ accepted r
      → let back = with_mark h r.engine.head.mark in
      (move r.engine.head r.engine.area (neg_ℤ (pos (length bytes))) ≡ accepted (engine_of back area))
      × (cipher back area r.bytes ≡ accepted (record { engine = r.engine; bytes = bytes }))
      × (cipher h area r.bytes ≡ accepted (record { engine = r.engine; bytes = bytes }))
