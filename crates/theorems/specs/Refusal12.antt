-- Refusal 12 is given exactly when no key and IV have these tables at this position, where the conditions before it hold; and it does occur.
use Rattle.std.specs.Prelude.{◌≡◌, List, ◌↔◌, ℕ, ◌≤◌, length}
use Rattle.word.specs.Bytes.{AllBytes, AllWords}
use Rattle.cipher.specs.declared.Cipher.{Cipher}
use Rattle.cipher.specs.Numbers.{code_of, area_length, key_length, iv_length}
use Rattle.tables.specs.Area.{Area}
use Rattle.keys.specs.Key.{Pair}
use Rattle.steps.specs.Steps.{steps, steps_at, word_at}
use Rattle.setup.specs.SetUp as SetUp
use Rattle.checkpoint.specs.Checkpoint.{layout}
use Rattle.engine.specs.declared.Head.{Head}
use Rattle.laws.specs.Result.{refused}
use Rattle.conditions.specs.Limit.{limit}
use Rattle.engine.specs.Head.{head_at}
use Rattle.engine.specs.Calls.{recover, load}

-- no key and IV of the cipher's lengths have these tables at this position
abbrev pub NoneHave : Cipher → List ℕ → ℕ → Type 0
NoneHave c s p = (k v : List ℕ) → Pair c k v → steps c (SetUp.set_up c k v) 0 (steps_at p) ≡ s → ⊥

-- every other condition of recover holds, and none have the area's tables
pub record RecoverNone (h : Head) (area key iv : List ℕ) : Type 0 where
  pub cipher : Cipher
  pub code_is : h.code ≡ code_of cipher
  pub sized : length area ≡ area_length cipher
  pub within : h.position ≤ limit
  pub word_is : h.word ≡ word_at cipher area h.position
  pub key_long : length key ≡ key_length cipher
  pub iv_long : length iv ≡ iv_length cipher
  pub none_have : NoneHave cipher area h.position

-- the string is laid out as a checkpoint, the area has its cipher's size, and none have its tables
pub record LoadNone (string area : List ℕ) : Type 0 where
  pub cipher : Cipher
  pub position : ℕ
  pub tables : List ℕ
  pub is_area : Area cipher tables
  pub within : position ≤ limit
  pub string_is : string ≡ layout cipher position tables
  pub sized : length area ≡ area_length cipher
  pub none_have : NoneHave cipher tables position

pub record Refusal12 : Type 0 where
  pub of_recover : (h : Head) (area key iv : List ℕ) → AllWords area → recover h area key iv ≡ refused 12 ↔ RecoverNone h area key iv
  pub of_load : (string area : List ℕ) → AllBytes string → load string area ≡ refused 12 ↔ LoadNone string area
  -- 'Refusal 12 does occur': for both ciphers and at every position some area is refused with 12 by recover, from a head that has that area's word,
  -- whatever its mark and whatever buffers of the cipher's lengths are lent, and, in a string laid out as a checkpoint, by load, whatever area of the
  -- cipher's size is lent.
  pub occurs :
      (c : Cipher) (p : ℕ) → p ≤ limit
      → (s : List ℕ) × Area c s
      × ((mark : ℕ) (key iv : List ℕ) → length key ≡ key_length c → length iv ≡ iv_length c
      → recover (head_at (code_of c) p (word_at c s p) mark) s key iv ≡ refused 12)
      × ((area : List ℕ) → length area ≡ area_length c → load (layout c p s) area ≡ refused 12)
