-- Steps that are taken with the carried five are the numbered steps. Assumes nothing.
use mathlib.Core.Path.{◌≡◌, refl, sym, ap, ap₂, ◌∙◌}
use mathlib.Core.Bool.{Bool}
use mathlib.Core.Logic.{⊎_elim}
use mathlib.Core.List.{List}
use Prim.Native.Nat.{ℕ, ◌+◌, ◌%◌, ◌<◌}
use native.Mathlib.Omega.{arith}
use borrow.Author.Tests.{lt-ltb, le-ltb}
use lib.ListN.{get_or}
use Rattle.laws.proofs.Lists.{below_or_not}
use Rattle.word.specs.Word.{◌⊞◌, ◌⊕◌}
use Rattle.cipher.specs.declared.Cipher.{Cipher}
use Rattle.cipher.specs.declared.Cipher.TheVariants.{Hc128, Hc256}
use Rattle.cipher.specs.Numbers.{table_length}
use Rattle.tables.specs.declared.Indices.{Indices}
use Rattle.tables.specs.Area.{changes_p, start_a, indices_at, places, Within}
use Rattle.tables.proofs.Masks.{indices_within}
use Rattle.tables.specs.Step.{step, output}
use Rattle.tables.proofs.Words.{feedback_read, filter_read, stepped}
use Rattle.carried.specs.Carried.{carried, five_of}
use Rattle.carried.specs.Runs.{NoneWraps, before_wrap}
use Rattle.carried.specs.Steps.{step_with, output_with, call_step, call_output}
use Rattle.carried.specs.Runs.{run_step, run_output}
use Rattle.carried.proofs.Five.{carried_is, five_is}

-- ---- with the five of a step number

module _ (c : Cipher) (s : List ℕ) (i : ℕ) {p : Bool} {x : Indices} (f : p ≡ changes_p (table_length c) i) (h : x ≡ indices_at (table_length c) i) where
  pub step_with_lem : step_with c p s x ≡ step c s i
  unfolding step_with
  step_with_lem = stepped c s i (rw (h, f) refl) (ap (λ (d : ℕ). get_or s (start_a (table_length c) p + x.j) 0 ⊞ d) (feedback_read c s i f (ap (places (table_length c) p) h)))

  pub output_with_lem : output_with c p s x ≡ output c s i
  unfolding output_with output
  output_with_lem = ap₂ (λ (a b : ℕ). a ⊕ b) (filter_read c s i f (ap (places (table_length c) p) h)) (rw (h, f) refl)

-- ---- the steps of a row, as steps of the call

-- a row lies in one turn
same_half : (c : Cipher) (i m : ℕ) → i % table_length c + m < table_length c → changes_p (table_length c) i ≡ changes_p (table_length c) (i + m)
same_half Hc128 i m h =
    ⊎_elim
    (λ l. rw (lt-ltb (i % 1024) 512 l, lt-ltb ((i + m) % 1024) 512 (omega arith)) refl)
    (λ l. rw (le-ltb (i % 1024) 512 l, le-ltb ((i + m) % 1024) 512 (omega arith)) refl)
    (below_or_not (i % 1024) 512)
same_half Hc256 i m h =
    ⊎_elim
    (λ l. rw (lt-ltb (i % 2048) 1024 l, lt-ltb ((i + m) % 2048) 1024 (omega arith)) refl)
    (λ l. rw (le-ltb (i % 2048) 1024 l, le-ltb ((i + m) % 2048) 1024 (omega arith)) refl)
    (below_or_not (i % 2048) 1024)

pub five_later : (c : Cipher) (i k m : ℕ) → carried (table_length c) (five_of (table_length c) i k) m ≡ five_of (table_length c) i (k + m)
five_later c i k m =
    let T = table_length c in
    let e : i + k + m ≡ i + (k + m) = omega arith in
    ap (λ (y : Indices). carried T y m) (five_is c i k) ∙ carried_is c (i + k) m ∙ ap (indices_at T) e ∙ sym (five_is c i (k + m))

module _ (c : Cipher) (i k m : ℕ) {p : Bool} {x : Indices} (e : x ≡ five_of (table_length c) i k) (f : p ≡ changes_p (table_length c) (i + k))
    (l : x.j + m < table_length c) where
  half : p ≡ changes_p (table_length c) (i + (k + m))
  half =
      let a : i + k + m ≡ i + (k + m) = omega arith in
      let j : x.j ≡ (i + k) % table_length c = ap (λ (y : Indices). y.j) (e ∙ five_is c i k) in
      f ∙ same_half c (i + k) m (rw j at l) ∙ ap (changes_p (table_length c)) a

  five : carried (table_length c) x m ≡ five_of (table_length c) i (k + m)
  five = ap (λ (y : Indices). carried (table_length c) y m) e ∙ five_later c i k m

  pub run_step_lem : (s : List ℕ) → run_step c p x s m ≡ call_step c i s (k + m)
  run_step_lem s = ap₂ (λ (q : Bool) (y : Indices). step_with c q s y) half five

  pub run_output_lem : (s : List ℕ) → run_output c p x s m ≡ call_output c i s (k + m)
  run_output_lem s = ap₂ (λ (q : Bool) (y : Indices). output_with c q s y) half five

-- ---- the steps of a call, as numbered steps

pub call_step_lem : (c : Cipher) (i : ℕ) (s : List ℕ) (k : ℕ) → call_step c i s k ≡ step c s (i + k)
call_step_lem c i s k = step_with_lem c s (i + k) refl (five_is c i k)

pub call_output_lem : (c : Cipher) (i : ℕ) (s : List ℕ) (k : ℕ) → call_output c i s k ≡ output c s (i + k)
call_output_lem c i s k = output_with_lem c s (i + k) refl (five_is c i k)

-- ---- none of the five of a step number wraps in as many steps as `before_wrap` says

before_at : (c : Cipher) (i : ℕ) → NoneWraps (table_length c) (indices_at (table_length c) i) (before_wrap (table_length c) (indices_at (table_length c) i))
before_at Hc128 i =
    ⊎_elim
    (λ l. rw (lt-ltb ((i % 512 + 500) % 512) ((i % 512 + 1) % 512) l) (record { j_in = omega arith; minus3_in = omega arith; minus10_in = omega arith; plus1_in = omega arith; minus12_in = omega arith }))
    (λ l. rw (le-ltb ((i % 512 + 500) % 512) ((i % 512 + 1) % 512) l) (record { j_in = omega arith; minus3_in = omega arith; minus10_in = omega arith; plus1_in = omega arith; minus12_in = omega arith }))
    (below_or_not ((i % 512 + 500) % 512) ((i % 512 + 1) % 512))
before_at Hc256 i =
    ⊎_elim
    (λ l. rw (lt-ltb ((i % 1024 + 1012) % 1024) ((i % 1024 + 1) % 1024) l) (record { j_in = omega arith; minus3_in = omega arith; minus10_in = omega arith; plus1_in = omega arith; minus12_in = omega arith }))
    (λ l. rw (le-ltb ((i % 1024 + 1012) % 1024) ((i % 1024 + 1) % 1024) l) (record { j_in = omega arith; minus3_in = omega arith; minus10_in = omega arith; plus1_in = omega arith; minus12_in = omega arith }))
    (below_or_not ((i % 1024 + 1012) % 1024) ((i % 1024 + 1) % 1024))

pub before_wrap_lem : (c : Cipher) (i k : ℕ) {x : Indices} → x ≡ five_of (table_length c) i k → NoneWraps (table_length c) x (before_wrap (table_length c) x)
before_wrap_lem c i k e = rw (e ∙ five_is c i k) (before_at c (i + k))

pub five_within : (c : Cipher) (i k : ℕ) {x : Indices} → x ≡ five_of (table_length c) i k → Within (table_length c) x
five_within c i k e = rw (e ∙ five_is c i k) (indices_within c (i + k))

pub five_index : (c : Cipher) (i k : ℕ) {x : Indices} → x ≡ five_of (table_length c) i k → x.j ≡ (i + k) % table_length c
five_index c i k e = ap (λ (y : Indices). y.j) (e ∙ five_is c i k)
