-- Document 02 (a): the word of a head. It is the output of the last step taken; every call that changes the state leaves it true; and a head with a
-- false word is refused with 13, straight after 5, in the calls that compare. For every head and area.
use Rattle.std.specs.Prelude.{◌≡◌, List, [], ◌↔◌, ℕ, ◌+◌, ◌*◌, ◌≤◌, ℤ, length}
use Rattle.cipher.specs.declared.Cipher.{Cipher}
use Rattle.cipher.specs.Numbers.{code_of}
use Rattle.tables.specs.Step.{output}
use Rattle.steps.specs.Steps.{word_at}
use Rattle.volume.specs.declared.Entry.{Entry}
use Rattle.volume.specs.Calls.{entries_in}
use Rattle.laws.specs.Result.{Result, refused, accepted}
use Rattle.conditions.specs.Conditions.{ready}
use Rattle.test_load.specs.TestLoad.{test_load}
use Rattle.engine.specs.declared.Head.{Head}
use Rattle.engine.specs.Calls.{Engine, engine_of, Ciphered, Loaded, set_up, cipher, encipher_volume, move, write, recover, load}

-- the head's word is the one that the area has at the head's position, for the cipher of the head's code
pub record TrueWord (e : Engine) : Type 0 where
  pub cipher : Cipher
  pub code_is : e.head.code ≡ code_of cipher
  pub word_is : e.head.word ≡ word_at cipher e.area e.head.position

-- a call that compares: 1, 4 and 5 come before 13, whatever the word is; where none of them is the answer, 13 is given exactly where the word is false
pub record Compares {A : Type 0} (h : Head) (area : List ℕ) (result : Result A) : Type 0 where
  pub before_13 : (n : ℕ) → ready h.code h.position (length area) ≡ refused n → result ≡ refused n
  pub gives_13 :
      (c : Cipher) → ready h.code h.position (length area) ≡ accepted c
      → (result ≡ refused 13) ↔ (h.word ≡ word_at c area h.position → ⊥)

pub record HeadWord : Type 0 where
  -- 'it is the output of the last step taken, and 0 at position 0': positions 4 i + 1 to 4 i + 4 have the output of step i
  pub at_0 : (c : Cipher) (s : List ℕ) → word_at c s 0 ≡ 0
  pub of_step : (c : Cipher) (s : List ℕ) (i r : ℕ) → 1 ≤ r → r ≤ 4 → word_at c s (4 * i + r) ≡ output c s i
  -- 'every call that changes the state keeps it true', whatever the head was
  pub set_up_leaves : (code : ℕ) (key iv area : List ℕ) (e : Engine) → set_up code key iv area ≡ accepted e → TrueWord e
  pub cipher_leaves : (h : Head) (area bytes : List ℕ) (r : Ciphered) → cipher h area bytes ≡ accepted r → TrueWord r.engine
  pub encipher_leaves : (h : Head) (area volume : List ℕ) (r : Ciphered) → encipher_volume h area volume ≡ accepted r → TrueWord r.engine
  pub move_leaves : (h : Head) (area : List ℕ) (d : ℤ) (e : Engine) → move h area d ≡ accepted e → TrueWord e
  -- 'A load works it out afresh'
  pub load_leaves : (string area : List ℕ) (o : Loaded) → load string area ≡ accepted o → TrueWord o.engine
  -- the test load leaves it true as the calls do of which it is made (document 02 (h))
  pub test_load_leaves :
      (seed count code : ℕ) (key iv area : List ℕ) (e : Engine) → test_load seed count code key iv area ≡ accepted e → TrueWord e
  -- a cipher call of no bytes keeps it, as it keeps all else
  pub no_bytes : (h : Head) (area : List ℕ) (r : Ciphered) → cipher h area [] ≡ accepted r → r ≡ record { engine = engine_of h area; bytes = [] }
  -- 'It refuses such a head with 13, in the calls that take an area, straight after 5'
  pub cipher_compares : (h : Head) (area bytes : List ℕ) → Compares h area (cipher h area bytes)
  -- the enciphering of a volume compares once the volume is read (document 02 (d))
  pub encipher_compares :
      (h : Head) (area volume : List ℕ) (entries : List Entry) → entries_in volume ≡ accepted entries → Compares h area (encipher_volume h area volume)
  pub move_compares : (h : Head) (area : List ℕ) (d : ℤ) → Compares h area (move h area d)
  pub write_compares : (h : Head) (area lent : List ℕ) → Compares h area (write h area lent)
  pub recover_compares : (h : Head) (area key iv : List ℕ) → Compares h area (recover h area key iv)
