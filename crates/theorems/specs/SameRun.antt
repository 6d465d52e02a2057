-- Document 02 (m), same run or not: yes is given exactly where two checkpoints of one cipher have the same key and IV, and exactly where moving what the
-- first loads by q - p writes the second; which pairs are accepted; each refusal; what the answer says of checkpoints that were written after lists of
-- calls; and single strings.
use Rattle.std.specs.Prelude.{◌≡◌, Bool, true, false, List, [], ◌∷◌, ◌↔◌, ◌⊎◌, ℕ, ◌≤◌, ℤ, pos, ◌-ℤ◌, length}
use Rattle.laws.specs.Result.{refused, accepted}
use Rattle.word.specs.Bytes.{AllBytes}
use Rattle.engine.specs.Calls.{Engine, Written, Loaded, move, write, load}
use Rattle.same_run.specs.SameRun.{same_run}
use Rattle.theorems.specs.Account.{Call, AllGiven, Four, holds, at_position, account_after, Checkpoint}
use Rattle.theorems.specs.Demand3.{write_after, given}

-- 'two accepted checkpoints': load accepts each, into an area of its own
pub record BothLoad (first second : List ℕ) : Type 0 where
  pub area : List ℕ
  pub area' : List ℕ
  pub a : Loaded
  pub b : Loaded
  pub first_loads : load first area ≡ accepted a
  pub second_loads : load second area' ≡ accepted b

-- 'of one cipher': the two heads have the same code
abbrev pub OneCipher : {first second : List ℕ} → BothLoad first second → Type 0
OneCipher t = t.a.engine.head.code ≡ t.b.engine.head.code

-- 'at positions p and q': the distance q - p, which a signed 64-bit number holds, since both positions are within the limit
abbrev pub distance : (a b : Loaded) → ℤ
distance a b = pos b.engine.head.position -ℤ pos a.engine.head.position

-- what was loaded is moved by a distance and then written into lent bytes, and both calls are accepted
pub record MovedAndWritten (o : Loaded) (d : ℤ) (lent : List ℕ) : Type 0 where
  pub there : Engine
  pub moved : move o.engine.head o.engine.area d ≡ accepted there
  pub w : Written
  pub written : write there.head there.area lent ≡ accepted w

-- 'what load refuses of a string': load gives the number, into some area, and the number is not 4, which is about the area
abbrev pub LoadRefuses : (string : List ℕ) (n : ℕ) → Type 0
LoadRefuses string n = (area : List ℕ) × (load string area ≡ refused n) × (n ≡ 4 → ⊥)

-- load accepts the string, into some area
abbrev pub Loads : (string : List ℕ) → Type 0
Loads string = (area : List ℕ) × (o : Loaded) × (load string area ≡ accepted o)

-- the string was written after a list of calls whose account is the four
pub record WrittenAfter (f : Four) (string : List ℕ) : Type 0 where
  pub calls : List Call
  pub all_given : AllGiven calls
  pub area : List ℕ
  pub lent : List ℕ
  pub w : Written
  pub written : write_after calls area lent ≡ accepted w
  pub account_is : account_after calls area ≡ holds f
  pub string_is : string ≡ given w

pub record SameRun : Type 0 where
  -- 'Two accepted checkpoints of one cipher .. have the same key and IV': the answer is yes exactly where they have, and no exactly where they have
  -- not, at all positions.
  pub yes_iff :
      (first second : List ℕ) (f g : Four) → Checkpoint first f → Checkpoint second g → f.cipher ≡ g.cipher
      → (same_run first second ≡ accepted true) ↔ ((f.key ≡ g.key) × (f.iv ≡ g.iv))
  pub no_iff :
      (first second : List ℕ) (f g : Four) → Checkpoint first f → Checkpoint second g → f.cipher ≡ g.cipher
      → (same_run first second ≡ accepted false) ↔ ((f.key ≡ g.key) × (f.iv ≡ g.iv) → ⊥)
  -- Checkpoints of different ciphers get 23, and no others do.
  pub two_ciphers :
      (first second : List ℕ) (f g : Four) → Checkpoint first f → Checkpoint second g
      → (same_run first second ≡ refused 23) ↔ (f.cipher ≡ g.cipher → ⊥)
  -- Of two strings that load accepts, of one cipher: the answer is yes exactly where load gives the same words of key and IV for both.
  pub yes_iff_loaded :
      (first second : List ℕ) (t : BothLoad first second) → OneCipher t → AllBytes first → AllBytes second
      → (same_run first second ≡ accepted true) ↔ ((t.a.key ≡ t.b.key) × (t.a.iv ≡ t.b.iv))
  -- '.. exactly when moving the first by q - p writes the second.' The move and the write are accepted, where at least as many bytes are lent as the
  -- second has, ..
  pub moves_and_writes :
      (first second lent : List ℕ) (t : BothLoad first second) → OneCipher t → AllBytes first → AllBytes second → length second ≤ length lent
      → MovedAndWritten t.a (distance t.a t.b) lent
  -- .. and they write the second exactly where the answer is yes, and another string exactly where it is no, ..
  pub yes_iff_writes :
      (first second lent : List ℕ) (t : BothLoad first second) (m : MovedAndWritten t.a (distance t.a t.b) lent)
      → OneCipher t → AllBytes first → AllBytes second
      → (same_run first second ≡ accepted true) ↔ (given m.w ≡ second)
  pub no_iff_writes :
      (first second lent : List ℕ) (t : BothLoad first second) (m : MovedAndWritten t.a (distance t.a t.b) lent)
      → OneCipher t → AllBytes first → AllBytes second
      → (same_run first second ≡ accepted false) ↔ (given m.w ≡ second → ⊥)
  -- .. so exactly where load gives the same words of key and IV for both.
  pub same_iff_writes :
      (first second lent : List ℕ) (t : BothLoad first second) (m : MovedAndWritten t.a (distance t.a t.b) lent)
      → OneCipher t → AllBytes first → AllBytes second
      → ((t.a.key ≡ t.b.key) × (t.a.iv ≡ t.b.iv)) ↔ (given m.w ≡ second)
  -- Every pair of checkpoints of one cipher gets yes or no, and no other pair does.
  pub accepted_iff :
      (first second : List ℕ) → AllBytes first → AllBytes second
      → ((answer : Bool) × (same_run first second ≡ accepted answer))
      ↔ ((f : Four) × (g : Four) × Checkpoint first f × Checkpoint second g × (f.cipher ≡ g.cipher))
  -- 'It refuses what load refuses of a string, the first string first, and two different ciphers with 23 last.'
  pub refused_iff :
      (first second : List ℕ) (n : ℕ)
      → (same_run first second ≡ refused n)
      ↔ (LoadRefuses first n ⊎ ((Loads first × LoadRefuses second n) ⊎ ((t : BothLoad first second) × (OneCipher t → ⊥) × (n ≡ 23))))
  pub never_4 : (first second : List ℕ) → same_run first second ≡ refused 4 → ⊥
  -- A checkpoint is of one run with itself, the order of two does not matter to the answer, and two that are of one run with a third are so with each
  -- other.
  pub itself : (string : List ℕ) (f : Four) → Checkpoint string f → same_run string string ≡ accepted true
  pub either_order :
      (first second : List ℕ) (answer : Bool) → AllBytes first → AllBytes second
      → same_run first second ≡ accepted answer → same_run second first ≡ accepted answer
  pub with_a_third :
      (first second third : List ℕ) → AllBytes first → AllBytes second → AllBytes third
      → same_run first second ≡ accepted true → same_run second third ≡ accepted true → same_run first third ≡ accepted true
  -- Of what was written after any two lists of calls, the answer is yes exactly where the account of the first, at the position of the second, is the
  -- account of the second: where cipher, key and IV are the same. It is no exactly where the ciphers are the same and that is not so, and 23 exactly
  -- where the ciphers are different.
  pub after_lists_yes :
      (first second : List ℕ) (f g : Four) → WrittenAfter f first → WrittenAfter g second
      → (same_run first second ≡ accepted true) ↔ (at_position f g.position ≡ g)
  pub after_lists_no :
      (first second : List ℕ) (f g : Four) → WrittenAfter f first → WrittenAfter g second
      → (same_run first second ≡ accepted false) ↔ ((f.cipher ≡ g.cipher) × (at_position f g.position ≡ g → ⊥))
  pub after_lists_23 :
      (first second : List ℕ) (f g : Four) → WrittenAfter f first → WrittenAfter g second
      → (same_run first second ≡ refused 23) ↔ (f.cipher ≡ g.cipher → ⊥)
  -- Some strings that are refused as the first, whatever the second is, ..
  pub no_bytes : (second : List ℕ) → same_run [] second ≡ refused 9
  pub code_3 : (second : List ℕ) → same_run (0x03 ∷ []) second ≡ refused 1
  pub no_position : (second : List ℕ) → same_run (0x01 ∷ []) second ≡ refused 9
  pub position_cut : (second : List ℕ) → same_run (0x01 ∷ 0x80 ∷ 0x80 ∷ 0x80 ∷ []) second ≡ refused 9
  pub fifth_group : (second : List ℕ) → same_run (0x01 ∷ 0x80 ∷ 0x80 ∷ 0x80 ∷ 0x80 ∷ []) second ≡ refused 10
  pub last_group_0 : (second : List ℕ) → same_run (0x01 ∷ 0x80 ∷ 0x00 ∷ []) second ≡ refused 10
  pub past_limit : (second : List ℕ) → same_run (0x01 ∷ 0x81 ∷ 0x80 ∷ 0x80 ∷ 0x20 ∷ []) second ≡ refused 5
  pub no_words : (second : List ℕ) → same_run (0x01 ∷ 0x00 ∷ []) second ≡ refused 11
  -- .. and some that are refused as the second after any checkpoint, of whichever cipher: 23 comes last.
  pub second_no_bytes : (first : List ℕ) (f : Four) → Checkpoint first f → same_run first [] ≡ refused 9
  pub second_code_3 : (first : List ℕ) (f : Four) → Checkpoint first f → same_run first (0x03 ∷ []) ≡ refused 1
  pub second_128_no_words : (first : List ℕ) (f : Four) → Checkpoint first f → same_run first (0x01 ∷ 0x00 ∷ []) ≡ refused 11
  pub second_256_no_words : (first : List ℕ) (f : Four) → Checkpoint first f → same_run first (0x02 ∷ 0x00 ∷ []) ≡ refused 11
