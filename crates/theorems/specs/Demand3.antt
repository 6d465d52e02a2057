-- Demand 3, a single claim about lists of calls of every length.
use Rattle.std.specs.Prelude.{◌≡◌, List, ◌++◌, ◌↔◌, ℕ, ◌≤◌, length, take, drop}
use Rattle.word.specs.Bytes.{AllBytes}
use Rattle.cipher.specs.Numbers.{code_of, area_length}
use Rattle.laws.specs.Result.{Result, accepted}
use Rattle.engine.specs.Calls.{Written, Loaded, eight_words, write, load}
use Rattle.checkpoint.specs.Checkpoint.{length_of, longest}
use Rattle.theorems.specs.Account.{Call, AllGiven, answered, Four, IsFour, Account, holds, feed, call_load, engine_after, account_after, Checkpoint}

-- a write after a list of calls
abbrev pub write_after : List Call → List ℕ → List ℕ → Result Written
write_after calls area lent = write (engine_after calls area).head (engine_after calls area).area lent

-- 'what an accepted write gives is the lent bytes up to the returned length'
abbrev pub given : Written → List ℕ
given w = take w.length w.lent

-- 'loading names a four by the next head's code and position and the returned key and IV words'
pub record Names (o : Loaded) (f : Four) : Type 0 where
  pub code : o.engine.head.code ≡ code_of f.cipher
  pub position : o.engine.head.position ≡ f.position
  pub key : o.key ≡ eight_words f.key
  pub iv : o.iv ≡ eight_words f.iv

pub record Demand3 : Type 0 where
  -- After every list an accepted write gives the checkpoint of the account, which is a four.
  pub written :
      (calls : List Call) → AllGiven calls → (area lent : List ℕ) (w : Written)
      → write_after calls area lent ≡ accepted w
      → (f : Four) × (account_after calls area ≡ holds f) × Checkpoint (given w) f
  -- What is written is as long as the returned length, which is that of a checkpoint of the four's cipher at its position and at most 4,101 or 8,197;
  -- later bytes stay.
  pub fits :
      (calls : List Call) → AllGiven calls → (area lent : List ℕ) (f : Four) (w : Written)
      → account_after calls area ≡ holds f → write_after calls area lent ≡ accepted w
      → (w.length ≡ length_of f.cipher f.position) × (w.length ≤ longest f.cipher) × (length (given w) ≡ w.length)
      × (w.lent ≡ given w ++ drop w.length lent)
  -- Whenever the account is a four, a write is accepted exactly where at least so many bytes are lent.
  pub writable :
      (calls : List Call) → AllGiven calls → (area lent : List ℕ) (f : Four)
      → account_after calls area ≡ holds f
      → ((w : Written) × (write_after calls area lent ≡ accepted w)) ↔ (length_of f.cipher f.position ≤ length lent)
  -- Document 02 (a): a head with a false word is refused with 13, and 'this never happens in a list of demand 3'.
  pub never_13 :
      (calls : List Call) → AllGiven calls → (area : List ℕ) (call : Call) → answered (engine_after calls area) call ≡ 13 → ⊥
  -- Every four is the account of some list, on every area of its cipher's size.
  pub reached :
      (f : Four) → IsFour f → (area : List ℕ) → length area ≡ area_length f.cipher
      → (calls : List Call) × AllGiven calls × (account_after calls area ≡ holds f)
  -- After any two lists the two checkpoints are equal exactly when the two accounts are.
  pub compared :
      (calls calls' : List Call) → AllGiven calls → AllGiven calls' → (area area' lent lent' : List ℕ) (w w' : Written)
      → write_after calls area lent ≡ accepted w
      → write_after calls' area' lent' ≡ accepted w'
      → (given w ≡ given w') ↔ (account_after calls area ≡ account_after calls' area')
  -- The loader accepts exactly the checkpoints of fours, where the area has that cipher's size, ..
  pub loaded :
      (string area : List ℕ) → AllBytes string
      → ((o : Loaded) × (load string area ≡ accepted o)) ↔ ((f : Four) × Checkpoint string f × (length area ≡ area_length f.cipher))
  -- .. and names the four.
  pub named : (string area : List ℕ) (o : Loaded) (f : Four) → load string area ≡ accepted o → Checkpoint string f → Names o f
  -- No two fours share a name, and none share a checkpoint.
  pub name_of_one : (o : Loaded) (f g : Four) → IsFour f → IsFour g → Names o f → Names o g → f ≡ g
  pub checkpoint_of_one : (string : List ℕ) (f g : Four) → Checkpoint string f → Checkpoint string g → f ≡ g
  -- The account's load is the four whose checkpoint the string is; it changes nothing where the string is no checkpoint or the size another.
  pub feed_load :
      (size : ℕ) (a : Account) (string : List ℕ) (f : Four)
      → Checkpoint string f → size ≡ area_length f.cipher → feed size a (call_load string) ≡ holds f
  pub feed_else :
      (size : ℕ) (a : Account) (string : List ℕ) → AllBytes string
      → ((f : Four) → Checkpoint string f → size ≡ area_length f.cipher → ⊥) → feed size a (call_load string) ≡ a
