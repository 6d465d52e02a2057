-- Document 02 (b): spent after a move back. What spent gives over lists of calls, and the rules of the mark for every head and area.
use Rattle.std.specs.Prelude.{◌≡◌, List, [], ◌↔◌, ℕ, ◌+◌, ◌≤◌, max, ℤ, length}
use Rattle.laws.specs.Result.{Outcome, accepted}
use Rattle.conditions.specs.Limit.{limit}
use Rattle.engine.specs.declared.Head.{Head}
use Rattle.engine.specs.Head.{with_mark}
use Rattle.engine.specs.Calls.{Engine, Ciphered, Written, Recovered, Loaded, Counted, set_up, cipher, cipher_call, encipher_volume, encipher_volume_call, move, move_call, write, write_call, recover, recover_call, load, spent, spent_call}
use Rattle.theorems.specs.Account.{Call, AllGiven, Four, holds, engine_after, account_after}
use Rattle.theorems.specs.Farthest.{farthest_after}

-- two engines that are equal but for the mark, and below that what two calls answer and leave, equal but for the mark
pub record SameButMark (e e' : Engine) : Type 0 where
  pub head : with_mark e.head 0 ≡ with_mark e'.head 0
  pub area : e.area ≡ e'.area

abbrev pub SameMoved : Outcome Engine → Outcome Engine → Type 0
SameMoved x y = (x.refusal ≡ y.refusal) × SameButMark x.value y.value

abbrev pub SameCiphered : Outcome Ciphered → Outcome Ciphered → Type 0
SameCiphered x y = (x.refusal ≡ y.refusal) × SameButMark x.value.engine y.value.engine × (x.value.bytes ≡ y.value.bytes)

abbrev pub SameWritten : Outcome Written → Outcome Written → Type 0
SameWritten x y =
    (x.refusal ≡ y.refusal) × SameButMark x.value.engine y.value.engine × (x.value.length ≡ y.value.length)
    × (x.value.lent ≡ y.value.lent)

abbrev pub SameRecovered : Outcome Recovered → Outcome Recovered → Type 0
SameRecovered x y =
    (x.refusal ≡ y.refusal) × SameButMark x.value.engine y.value.engine × (x.value.key ≡ y.value.key) × (x.value.iv ≡ y.value.iv)

pub record HeadMark : Type 0 where
  -- 'Spent becomes the farthest byte that any cipher call reached since the last set-up or load': so it is after every list of calls, ..
  pub spent_after :
      (calls : List Call) → AllGiven calls → (area : List ℕ) (n : Counted)
      → spent (engine_after calls area).head ≡ accepted n → n.count ≡ farthest_after calls area
  -- .. spent is accepted there exactly where the account is a four, and gives no more than the limit.
  pub spent_iff :
      (calls : List Call) → AllGiven calls → (area : List ℕ)
      → ((n : Counted) × (spent (engine_after calls area).head ≡ accepted n)) ↔ ((f : Four) × (account_after calls area ≡ holds f))
  pub at_most : (calls : List Call) → AllGiven calls → (area : List ℕ) → farthest_after calls area ≤ limit
  -- 'a set-up starts it at 0, a load at the loaded position, and a move leaves it', whatever the head was
  pub set_up_starts : (code : ℕ) (key iv area : List ℕ) (e : Engine) → set_up code key iv area ≡ accepted e → e.head.mark ≡ 0
  pub load_starts : (string area : List ℕ) (o : Loaded) → load string area ≡ accepted o → o.engine.head.mark ≡ o.engine.head.position
  pub move_leaves : (h : Head) (area : List ℕ) (d : ℤ) (e : Engine) → move h area d ≡ accepted e → e.head.mark ≡ h.mark
  -- 'a cipher call of one byte or more makes it the larger of the mark and its own end'; a call of no bytes leaves it
  pub cipher_raises :
      (h : Head) (area bytes : List ℕ) (r : Ciphered) → 1 ≤ length bytes → cipher h area bytes ≡ accepted r
      → r.engine.head.mark ≡ max h.mark (h.position + length bytes)
  pub no_bytes : (h : Head) (area : List ℕ) (r : Ciphered) → cipher h area [] ≡ accepted r → r.engine.head.mark ≡ h.mark
  -- document 02 (d): the enciphering of a volume is 'a cipher call .. for the mark'; a volume has a byte at least
  pub encipher_raises :
      (h : Head) (area volume : List ℕ) (r : Ciphered) → encipher_volume h area volume ≡ accepted r
      → r.engine.head.mark ≡ max h.mark (h.position + length volume)
  -- write and recover leave the whole head, and so does spent: `spent_gives`
  pub write_leaves : (h : Head) (area lent : List ℕ) (w : Written) → write h area lent ≡ accepted w → w.engine.head ≡ h
  pub recover_leaves : (h : Head) (area key iv : List ℕ) (r : Recovered) → recover h area key iv ≡ accepted r → r.engine.head ≡ h
  -- 'In a head that the caller made up, the mark is taken as given': spent gives it as it is, ..
  pub spent_gives : (h : Head) (n : Counted) → spent h ≡ accepted n → n ≡ record { head = h; count = h.mark }
  -- .. and what a call answers and leaves is, but for the mark, the same for every mark. So a checkpoint has nothing of it. Set up, load and the test
  -- load read nothing of the head; the mark that a test load leaves is in `leaves` of TestLoad.
  pub cipher_as_given :
      (h : Head) (mark : ℕ) (area bytes : List ℕ) → SameCiphered (cipher_call h area bytes) (cipher_call (with_mark h mark) area bytes)
  pub encipher_as_given :
      (h : Head) (mark : ℕ) (area volume : List ℕ) → SameCiphered (encipher_volume_call h area volume) (encipher_volume_call (with_mark h mark) area volume)
  pub move_as_given : (h : Head) (mark : ℕ) (area : List ℕ) (d : ℤ) → SameMoved (move_call h area d) (move_call (with_mark h mark) area d)
  pub write_as_given : (h : Head) (mark : ℕ) (area lent : List ℕ) → SameWritten (write_call h area lent) (write_call (with_mark h mark) area lent)
  pub recover_as_given :
      (h : Head) (mark : ℕ) (area key iv : List ℕ) → SameRecovered (recover_call h area key iv) (recover_call (with_mark h mark) area key iv)
  pub spent_as_given : (h : Head) (mark : ℕ) → (spent_call h).refusal ≡ (spent_call (with_mark h mark)).refusal
