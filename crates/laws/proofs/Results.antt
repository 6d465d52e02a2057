-- What the outcome of a `do` block shows of each of its lines, and what a refusal number and a value show of a result. Assumes nothing.
use mathlib.Core.Path.{◌≡◌, refl, sym, ◌∙◌}
use mathlib.Core.Bool.{Bool, true, false}
use mathlib.Core.Option.{Option, none, some}
use mathlib.Core.Logic.{◌↔◌, ◌⊎◌, inl, inr, ⊎_elim}
use Prim.Native.Nat.{ℕ, zero, suc}
use native.Mathlib.Omega.{arith}
use borrow.Author.Tests.{eq-eqb, ne_eqb}
use Rattle.laws.specs.Result.{Result, refused, accepted, outcome, result_of, ◌>>=◌, ◌>>◌, refuse◌unless◌, refuse◌without◌}

module _ {A : Type 0} where
  -- what is accepted is no refusal, so any C follows
  pub no_refusal : {C : Type 0} {n : ℕ} {a : A} → accepted a ≡ refused n → C
  no_refusal e = let z : ◌≡◌ {A = ℕ} 0 1 = cc in absurd (omega arith)

  pub accepted_one : {a b : A} {r : Result A} → r ≡ accepted a → r ≡ accepted b → a ≡ b
  accepted_one p q = cc

  -- what an accepted call and its refusal both leave as it was
  pub outcome_same : {B : Type 0} (part : A → B) (old : A) (r : Result A)
      → ((new : A) → r ≡ accepted new → part new ≡ part old) → part (outcome old r).value ≡ part old
  outcome_same part old (refused n) h = refl
  outcome_same part old (accepted new) h = h new refl

module _ {A B : Type 0} where
  -- a block whose last line accepts is refused exactly where the lines before it are
  pub refused_iff : (f : A → B) (r : Result A) (n : ℕ) → (r >>= λ a. accepted (f a)) ≡ refused n ↔ r ≡ refused n
  refused_iff f (refused m) n = ((λ e. cc), (λ e. cc))
  refused_iff f (accepted a) n = (no_refusal, no_refusal)

  -- where a block is accepted, so are the lines after its first
  pub after_first : (r : Result A) (q : Result B) {b : B} → (r >> q) ≡ accepted b → q ≡ accepted b
  after_first (refused n) q e = no_refusal (sym e)
  after_first (accepted a) q e = e

-- blocks within blocks
module _ {A B C : Type 0} where
  pub block_in_block : (r : Result A) (f : A → Result B) (g : B → Result C) → (r >>= f >>= g) ≡ (r >>= λ a. f a >>= g)
  block_in_block (refused n) f g = refl
  block_in_block (accepted a) f g = refl

module _ {A B : Type 0} where
  pub same_lines : (r : Result A) (f g : A → Result B) → ((a : A) → f a ≡ g a) → (r >>= f) ≡ (r >>= g)
  same_lines (refused n) f g e = refl
  same_lines (accepted a) f g e = e a

-- where a block's outcome x is not the refusal of its first line, that line is accepted, and x is the outcome of the lines after it; C is
-- what is to be shown from that
module _ {A B C : Type 0} where
  pub after_line : (r : Result A) (f : A → Result B) {x : Result B} → (r >>= f) ≡ x → ((n : ℕ) → x ≡ refused n → r ≡ refused n → ⊥)
      → ((a : A) → r ≡ accepted a → f a ≡ x → C) → C
  after_line (refused n) f e other k = absurd (other n (sym e) refl)
  after_line (accepted a) f e other k = k a refl e

  pub after_without : (n : ℕ) (o : Option A) (f : A → Result B) {x : Result B} → ((refuse n without o) >>= f) ≡ x → (x ≡ refused n → ⊥)
      → ((a : A) → o ≡ some a → f a ≡ x → C) → C
  after_without n none f e other k = absurd (other (sym e))
  after_without n (some a) f e other k = k a refl e

module _ {B C : Type 0} where
  pub after_unless : (n : ℕ) (t : Bool) (r : Result B) {x : Result B} → ((refuse n unless t) >> r) ≡ x → (x ≡ refused n → ⊥)
      → (t ≡ true → r ≡ x → C) → C
  after_unless n true r e other k = k refl e
  after_unless n false r e other k = absurd (other (sym e))

pub zero_or_not : (n : ℕ) → (n ≡ 0) ⊎ (n ≡ 0 → ⊥)
zero_or_not zero = inl refl
zero_or_not (suc n) = inr (λ e. omega arith)

-- what a caller learns from a refusal number and a value
module _ {A : Type 0} (n : ℕ) (a : A) (X : Result A) (e : result_of n a ≡ X) where
  pub is_refused : (n ≡ 0 → ⊥) → X ≡ refused n
  is_refused h = sym e ∙ rw (ne_eqb n 0 h)

  pub is_accepted : n ≡ 0 → X ≡ accepted a
  is_accepted h = sym e ∙ rw (eq-eqb n 0 h)
