-- No refusal is numbered 0, so that a refusal of 0 means that the call was accepted: for cipher and load.
use mathlib.Core.Path.{◌≡◌, refl, sym, ap, ◌∙◌}
use mathlib.Core.List.{List, [], ◌∷◌}
use Prim.Native.Nat.{ℕ, ◌+◌, ◌*◌, ◌≤◌}
use native.Mathlib.Omega.{arith}
use lib.Dec.{leb, eqb}
use lib.ListN.{length}
use Rattle.word.specs.Bytes.{words}
use Rattle.varint.specs.Number.{Reading, is, ended, malformed, read_number}
use Rattle.cipher.specs.Numbers.{by_code, area_length}
use Rattle.steps.specs.Steps.{word_at}
use Rattle.checkpoint.specs.Checkpoint.{most_groups}
use Rattle.setup.specs.SetUp.{Undone, none, found}
use Rattle.engine.specs.declared.Head.{Head}
use Rattle.std.specs.Prelude.{Ok, Err}
use Rattle.std.specs.Prelude as Std
use Rattle.refusal.specs.declared.Refusal.{Refusal}
use Rattle.laws.specs.Result.{Result, refused, accepted, Outcome, outcome}
use Rattle.conditions.specs.Limit.{limit}
use Rattle.conditions.specs.Conditions.{ready, ready_with_word, cipher_check, undo_at, found_or12, position_read, cipher_in, contents_in, load_check}
use Rattle.engine.specs.Calls.{head_ready, Ciphered, cipher, cipher_call}
use Rattle.engine.specs.Outcomes as Outcomes
use Rattle.laws.proofs.Results.{no_refusal, accepted_one, after_line, after_without, after_unless}
use Rattle.theorems.proofs.Conditions.{cipher_shows}
use Rattle.lab.specs.Tasks.{Advance}

-- two refusals of different numbers
other : {A : Type 0} (m n : ℕ) → (m ≡ n → ⊥) → ◌≡◌ {A = Result A} (refused m) (refused n) → ⊥
other m n h e = h (cc)

number_of : {A : Type 0} {m n : ℕ} → ◌≡◌ {A = Result A} (refused m) (refused n) → n ≡ m
number_of e = cc

ready_not_0 : (code position size : ℕ) → ready code position size ≡ refused 0 → ⊥
unfolding ready
ready_not_0 code position size e =
    after_without 1 (by_code code) _ e (other 0 1 (λ z. omega arith)) λ c e₁ r₁.
    after_unless 4 (eqb size (area_length c)) _ r₁ (other 0 4 (λ z. omega arith)) λ e₂ r₂.
    after_unless 5 (leb position limit) _ r₂ (other 0 5 (λ z. omega arith)) λ e₃ r₃.
    no_refusal r₃

word_not_0 : (code position word : ℕ) (area : List ℕ) → ready_with_word code position word area ≡ refused 0 → ⊥
unfolding ready_with_word
word_not_0 code position word area e =
    after_line (ready code position (length area)) _ e (λ m q s. ready_not_0 code position (length area) (s ∙ ap refused (number_of q))) λ c e₁ r₁.
    after_unless 13 (eqb word (word_at c area position)) _ r₁ (other 0 13 (λ z. omega arith)) λ e₂ r₂.
    no_refusal r₂

cipher_not_0 : (h : Head) (area : List ℕ) (n : ℕ) → cipher_check (head_ready h area) h.position n ≡ refused 0 → ⊥
unfolding cipher_check
cipher_not_0 h area n e =
    after_line (head_ready h area) _ e (λ m q s. word_not_0 h.code h.position h.word area (s ∙ ap refused (number_of q))) λ c e₁ r₁.
    after_unless 6 (leb (h.position + n) limit) _ r₁ (other 0 6 (λ z. omega arith)) λ e₂ r₂.
    no_refusal r₂

found_not_0 : (u : Undone) → found_or12 u ≡ refused 0 → ⊥
found_not_0 none e = other 12 0 (λ z. omega arith) e
found_not_0 (found k v) e = no_refusal e

position_not_0 : (f : Reading) → position_read f ≡ refused 0 → ⊥
position_not_0 (is n rest) e = no_refusal e
position_not_0 ended e = other 9 0 (λ z. omega arith) e
position_not_0 malformed e = other 10 0 (λ z. omega arith) e

pub load_not_0 : (string : List ℕ) (size : ℕ) → load_check string size ≡ refused 0 → ⊥
unfolding load_check cipher_in contents_in
load_not_0 [] size e = other 9 0 (λ z. omega arith) e
load_not_0 (b ∷ tail) size e =
    let read = read_number most_groups tail in
    after_without 1 (by_code b) _ e (other 0 1 (λ z. omega arith)) λ c e₁ r₁.
    after_unless 4 (eqb size (area_length c)) _ r₁ (other 0 4 (λ z. omega arith)) λ e₂ r₂.
    after_line (position_read read) _ r₂ (λ n q s. position_not_0 read (s ∙ ap refused (number_of q))) λ place e₃ r₃.
    after_unless 5 (leb place.position limit) _ r₃ (other 0 5 (λ z. omega arith)) λ e₄ r₄.
    after_unless 11 (eqb (length place.rest) (4 * area_length c)) _ r₄ (other 0 11 (λ z. omega arith)) λ e₅ r₅.
    let u = undo_at c (words place.rest) place.position in
    after_line (found_or12 u) _ r₅ (λ n q s. found_not_0 u (s ∙ ap refused (number_of q))) λ pair e₆ r₆.
    no_refusal r₆

-- an accepted cipher call advances by the number of its bytes, within the limit
module _ (h : Head) (area bytes : List ℕ) where
  ends : (x : Result Ciphered) → cipher h area bytes ≡ x → (old : Ciphered) → (outcome old x).refusal ≡ 0
      → ((outcome old x).value.engine.head.position ≡ h.position + length bytes) × (h.position + length bytes ≤ limit)
  unfolding cipher
  ends (refused n) e old z =
      absurd (after_line (cipher_check (head_ready h area) h.position (length bytes)) _ e
      (λ m q s. cipher_not_0 h area (length bytes) (s ∙ ap refused (number_of q ∙ z))) λ c e₁ r₁. no_refusal r₁)
  ends (accepted r) e old z =
      after_line (cipher_check (head_ready h area) h.position (length bytes)) _ e (λ _. no_refusal) λ c e₁ r₁. (
        ap (λ (y : Ciphered). y.engine.head.position) (sym (accepted_one refl r₁)),
        (cipher_shows _ h.position (length bytes) c e₁).1,
      )

  pub advances : (a : Std.Result (Unit {0}) Refusal) (new : Head) (s bs : List ℕ)
      → Outcomes.ciphered a new s bs ≡ cipher_call h area bytes → Advance h.position (length bytes) (record { head = new; answer = a })
  unfolding cipher_call
  advances (Ok t) new s bs e =
      let refusal = ap (λ (l : Outcome Ciphered). l.refusal) e in
      let position = ap (λ (l : Outcome Ciphered). l.value.engine.head.position) e in
      let (there, inside) = ends (cipher h area bytes) refl (record { engine = record { head = h; area = area }; bytes = bytes }) (sym refusal) in
      record { advanced = position ∙ there; within = inside }
  advances (Err r) new s bs e = record { advanced = tt; within = tt }
