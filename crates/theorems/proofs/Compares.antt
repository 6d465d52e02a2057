-- The calls that compare the head's word with the tables: 13 straight after 5, and exactly where the word is false. Assumes nothing.
use mathlib.Core.Path.{◌≡◌, refl, sym, ap, ◌∙◌, subst}
use mathlib.Core.Bool.{false}
use mathlib.Core.Logic.{⊎_elim}
use mathlib.Core.List.{List, [], ◌∷◌, Memᴰ}
use Prim.Native.Nat.{ℕ, ◌+◌}
use native.Mathlib.Omega.{arith}
use lib.Dec.{eqb, leb}
use lib.IntN.{ℤ, pos, ◌+ℤ◌}
use lib.ListN.{length}
use Rattle.cipher.specs.declared.Cipher.{Cipher}
use Rattle.cipher.specs.Numbers.{key_length, iv_length}
use Rattle.checkpoint.specs.Checkpoint.{length_of}
use Rattle.laws.specs.Result.{Result, refused, accepted, Outcome, ◌>>=◌}
use Rattle.conditions.specs.Limit.{limit}
use Rattle.conditions.specs.Conditions.{cipher_check, within, end_of, move_check, undo_at, recover_check}
use Rattle.conditions.proofs.Conditions.{word_not_ready, word_false, word_true}
use Rattle.engine.specs.declared.Head.{Head}
use Rattle.engine.specs.Calls.{head_ready, cipher, encipher_volume, move, write, recover}
use Rattle.volume.specs.declared.Entry.{Entry}
use Rattle.volume.specs.Calls.{entries_in}
use Rattle.theorems.proofs.Encipher.{volume_ciphered}
use Rattle.theorems.specs.Demand1.{Accepted, Refused, AcceptedOrRefused}
use Rattle.theorems.specs.HeadWord.{Compares}
use Rattle.theorems.proofs.Within.{Within, by_none, first, after, then_line, line_unless, found_within, end_within, among, not_among, within_not}

-- ── a block that begins with 1, 4, 5 and 13 ──

then_then : {A B C : Type 0} (r : Result A) (f : A → Result B) (g : B → Result C) → (r >>= f >>= g) ≡ (r >>= λ a. f a >>= g)
then_then (refused n) f g = refl
then_then (accepted a) f g = refl

-- f are the lines after these, whose refusals are the numbers
module _ {A : Type 0} (h : Head) (area : List ℕ) (f : Cipher → Result A) (numbers : List ℕ) (lines : (c : Cipher) → Within numbers (f c)) (none : among 13 numbers ≡ false) where
  begins : (result : Result A) → result ≡ (head_ready h area >>= f) → Compares h area result
  begins result e = record {
    before_13 = λ n r. e ∙ ap (λ (x : Result Cipher). x >>= f) (word_not_ready h.code h.position h.word area n r);
    gives_13 = λ c r. (
      (λ q w.
          within_not 13 numbers (f c) (lines c) none
          (sym (e ∙ ap (λ (x : Result Cipher). x >>= f) (word_true h.code h.position h.word area c r w)) ∙ q)),
      (λ w. e ∙ ap (λ (x : Result Cipher). x >>= f) (word_false h.code h.position h.word area c r w)),
    );
  }

pub cipher_compares : (h : Head) (area bytes : List ℕ) → Compares h area (cipher h area bytes)
unfolding cipher cipher_check
cipher_compares h area bytes =
    begins h area _ (6 ∷ [])
    (λ c. then_line _ _ (line_unless 6 (leb (h.position + length bytes) limit) _ first by_none) λ d. by_none) refl _
    (then_then (head_ready h area) _ _)

pub encipher_compares : (h : Head) (area volume : List ℕ) (entries : List Entry) → entries_in volume ≡ accepted entries
    → Compares h area (encipher_volume h area volume)
encipher_compares h area volume entries e = subst (Compares h area) (sym (volume_ciphered h area volume entries e)) (cipher_compares h area volume)

pub move_compares : (h : Head) (area : List ℕ) (d : ℤ) → Compares h area (move h area d)
unfolding move move_check end_of
move_compares h area d =
    begins h area _ (7 ∷ 6 ∷ [])
    (λ c. then_line _ _ (then_line (within (pos h.position +ℤ d)) _ (end_within (pos h.position +ℤ d) first (after first)) λ end. by_none) λ m. by_none)
    refl _ (then_then (head_ready h area) _ _)

pub write_compares : (h : Head) (area lent : List ℕ) → Compares h area (write h area lent)
unfolding write
write_compares h area lent =
    begins h area _ (8 ∷ []) (λ c. line_unless 8 (leb (length_of c h.position) (length lent)) _ first by_none) refl _ refl

pub recover_compares : (h : Head) (area key iv : List ℕ) → Compares h area (recover h area key iv)
unfolding recover recover_check
recover_compares h area key iv =
    begins h area _ (2 ∷ 3 ∷ 12 ∷ [])
    (λ c.
    then_line _ _
    (line_unless 2 (eqb (length key) (key_length c)) _ first
    (line_unless 3 (eqb (length iv) (iv_length c)) _ (after first) (found_within (undo_at c area h.position) (after (after first)))))
    λ pair. by_none) refl _ (then_then (head_ready h area) _ _)

-- ── a call that answers 13 is refused with it, and 13 is one of its numbers ──

module _ {A : Type 0} {numbers : List ℕ} {old : A} {result : Result A} {o : Outcome A} (a : AcceptedOrRefused numbers old result o) (q : o.refusal ≡ 13) where
  refused_13 : Memᴰ 13 numbers × (result ≡ refused 13)
  refused_13 =
      ⊎_elim
      (λ (x : Accepted result o). let z : ◌≡◌ {A = ℕ} 0 13 = sym (ap (λ (y : Outcome A). y.refusal) x.outcome_is) ∙ q in absurd (omega arith))
      (λ (x : Refused numbers old result o).
      let z : x.number ≡ 13 = sym (ap (λ (y : Outcome A). y.refusal) x.outcome_is) ∙ q in
      (rw z at x.one_of, x.result_is ∙ ap refused z))
      a

  pub answers_13 : result ≡ refused 13
  answers_13 = refused_13.1

  pub not_one_of : among 13 numbers ≡ false → ⊥
  not_one_of e = not_among 13 numbers refused_13.0 e
