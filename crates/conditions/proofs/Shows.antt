-- What the conditions that cipher, move, write and recover begin with show where they accept or refuse with 12. Assumes nothing.
use mathlib.Core.Path.{◌≡◌, refl, ap, ◌∙◌, subst}
use mathlib.Core.List.{List}
use Prim.Native.Nat.{ℕ, ◌≤◌}
use native.Mathlib.Omega.{arith}
use borrow.Author.Tests.{leb-true, eqb-true}
use lib.Dec.{leb, eqb}
use lib.ListN.{length}
use Rattle.cipher.specs.declared.Cipher.{Cipher}
use Rattle.cipher.specs.Numbers.{by_code, code_of, area_length}
use Rattle.cipher.proofs.Codes.{code_of_lem, by_code_lem}
use Rattle.steps.specs.Steps.{word_at}
use Rattle.laws.specs.Result.{Result, refused, accepted}
use Rattle.laws.proofs.Results.{no_refusal, accepted_one, after_line, after_without, after_unless}
use Rattle.conditions.specs.Limit.{limit}
use Rattle.conditions.specs.Conditions.{ready, ready_with_word}
use Rattle.conditions.proofs.Conditions.{ready_accepted, word_true}

-- ---- outcomes

-- an outcome that is no refusal but 12
abbrev pub Only12 : {A : Type 0} → Result A → Type 0
Only12 x = (n : ℕ) → x ≡ refused n → n ≡ 12

pub accepted_only : {A : Type 0} {a : A} → Only12 (accepted a)
accepted_only n e = no_refusal e

pub refused_only : {A : Type 0} → Only12 {A = A} (refused 12)
refused_only n e = cc

-- ---- code, area and position of the head

pub record ReadyShows (code position size : ℕ) (c : Cipher) : Type 0 where
  pub code_is : code ≡ code_of c
  pub sized : size ≡ area_length c
  pub within_limit : position ≤ limit

-- they hold where the outcome x is no refusal but 12
ready_passed : (code position size : ℕ) {x : Result Cipher} → Only12 x → ready code position size ≡ x
    → (c : Cipher) × ReadyShows code position size c × (accepted c ≡ x)
unfolding ready
ready_passed code position size only e =
    after_without 1 (by_code code) _ e (λ q. omega (arith, only 1 q)) λ c e₁ r₁.
    after_unless 4 (eqb size (area_length c)) _ r₁ (λ q. omega (arith, only 4 q)) λ e₂ r₂.
    after_unless 5 (leb position limit) _ r₂ (λ q. omega (arith, only 5 q)) λ e₃ r₃. (
      c,
      record {
        code_is = by_code_lem code c e₁;
        sized = eqb-true size (area_length c) e₂;
        within_limit = leb-true position limit e₃;
      },
      r₃,
    )

pub ready_shows : (code position size : ℕ) (c : Cipher) → ready code position size ≡ accepted c → ReadyShows code position size c
ready_shows code position size c e =
    let (d, r, q) = ready_passed code position size accepted_only e in
    subst (ReadyShows code position size) (accepted_one refl q) r

pub ready_not_12 : (code position size : ℕ) → ready code position size ≡ refused 12 → ⊥
ready_not_12 code position size e = no_refusal (ready_passed code position size refused_only e).2

-- ---- code, area, position and word of the head

pub record WordShows (code position word : ℕ) (area : List ℕ) (c : Cipher) : Type 0 where
  pub is_ready : ReadyShows code position (length area) c
  pub word_is : word ≡ word_at c area position

-- they hold where the outcome x is no refusal but 12
word_passed : (code position word : ℕ) (area : List ℕ) {x : Result Cipher} → Only12 x → ready_with_word code position word area ≡ x
    → (c : Cipher) × WordShows code position word area c × (accepted c ≡ x)
unfolding ready_with_word
word_passed code position word area only e =
    after_line (ready code position (length area)) _ e (λ n q s. ready_not_12 code position (length area) (s ∙ ap refused (only n q))) λ c e₁ r₁.
    after_unless 13 (eqb word (word_at c area position)) _ r₁ (λ q. omega (arith, only 13 q)) λ e₂ r₂. (
      c,
      record { is_ready = ready_shows code position (length area) c e₁; word_is = eqb-true word (word_at c area position) e₂ },
      r₂,
    )

pub word_shows : (code position word : ℕ) (area : List ℕ) (c : Cipher) → ready_with_word code position word area ≡ accepted c
    → WordShows code position word area c
word_shows code position word area c e =
    let (d, r, q) = word_passed code position word area accepted_only e in
    subst (WordShows code position word area) (accepted_one refl q) r

pub word_not_12 : (code position word : ℕ) (area : List ℕ) → ready_with_word code position word area ≡ refused 12 → ⊥
word_not_12 code position word area e = no_refusal (word_passed code position word area refused_only e).2

pub word_accepted : (c : Cipher) (position word : ℕ) (area : List ℕ) → length area ≡ area_length c → position ≤ limit → word ≡ word_at c area position
    → ready_with_word (code_of c) position word area ≡ accepted c
word_accepted c position word area z l w =
    word_true (code_of c) position word area c (ready_accepted (code_of c) position (length area) c (code_of_lem c) z l) w
