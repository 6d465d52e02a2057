-- What the functions of a test load leave, by the calls that they make. Assumes nothing.
use mathlib.Core.Path.{◌≡◌, refl, sym, ap, ◌∙◌}
use mathlib.Core.List.{List}
use Prim.Native.Nat.{ℕ, suc, ◌+◌, ◌-◌, ◌/◌, ◌%◌, ◌≤◌, ◌<◌}
use native.Mathlib.Nat.{sub-zero}
use native.Mathlib.Omega.{arith}
use borrow.Author.Tests.{eq-eqb, ne_eqb, le-leb, lt-leb}
use lib.Dec.{eqb}
use lib.ListN.{length, replicate}
use Rattle.laws.specs.Result.{Result, refused, accepted, Outcome}
use Rattle.laws.proofs.Results.{no_refusal, refused_iff, after_without, after_unless}
use Rattle.cipher.specs.declared.Cipher.{Cipher}
use Rattle.cipher.specs.Numbers.{by_code, area_length, key_length, iv_length}
use Rattle.conditions.specs.Conditions.{set_up_check}
use Rattle.engine.specs.declared.Head.{Head}
use Rattle.engine.specs.Calls.{Engine, engine_of, Ciphered, set_up, set_up_call, cipher_call}
use Rattle.move_to.specs.MoveTo.{move_to}
use Rattle.test_load.specs.Words.{next_word, move_to_byte, cipher_zeros, call_of, generated_calls}
use Rattle.test_load.specs.TestLoad.{run_call, run_calls, seed_and_count, test_load, test_load_call}

-- ---- the call of a word

module _ (w : ℕ) where
  pub even_moves : w % 2 ≡ 0 → call_of w ≡ move_to_byte (w / 2 % 4096)
  unfolding call_of
  even_moves e = rw (eq-eqb (w % 2) 0 e)

  pub odd_ciphers : (w % 2 ≡ 0 → ⊥) → call_of w ≡ cipher_zeros (w / 2 % 257)
  unfolding call_of
  odd_ciphers e = rw (ne_eqb (w % 2) 0 e)

pub ran_move : (h : Head) (area : List ℕ) (byte : ℕ) (o : Outcome Engine) → o ≡ move_to byte (engine_of h area)
    → o.value ≡ run_call (move_to_byte byte) (engine_of h area)
unfolding run_call
ran_move h area byte o e = ap (λ (x : Outcome Engine). x.value) e

pub ran_cipher : (h : Head) (area bytes : List ℕ) (n : ℕ) (o : Outcome Ciphered) → o ≡ cipher_call h area bytes → bytes ≡ replicate n 0
    → o.value.engine ≡ run_call (cipher_zeros n) (engine_of h area)
unfolding run_call
ran_cipher h area bytes n o e z = ap (λ (x : Outcome Ciphered). x.value.engine) e ∙ ap (λ (x : List ℕ). (cipher_call h area x).value.engine) z

-- ---- the calls of many words

-- what is left to do once k of n words have given their calls: the calls of the other words, from the last word on
module _ (seed n : ℕ) (first : Engine) where
  pub record Runs (k word : ℕ) (e : Engine) : Type 0 where
    pub same : run_calls (generated_calls word (n - k)) e ≡ run_calls (generated_calls seed n) first

  pub run_starts : Runs 0 seed first
  run_starts = record { same = rw sub-zero }

  pub run_turns : (k word : ℕ) (e : Engine) → Runs k word e → k < n → (word' : ℕ) → word' ≡ next_word word
      → (e' : Engine) → e' ≡ run_call (call_of word') e → Runs (k + 1) word' e'
  unfolding run_calls generated_calls
  run_turns k word e r l word' p e' q =
      let z : n - k ≡ suc (n - (k + 1)) = omega arith in
      record { same = rw (q, p) (rw z at r.same) }

  pub run_ends : (k word : ℕ) (e : Engine) → Runs k word e → n ≤ k → e ≡ run_calls (generated_calls seed n) first
  unfolding run_calls generated_calls
  run_ends k word e r l =
      let z : n - k ≡ 0 = omega arith in
      rw z at r.same

-- ---- the load

other : (n : ℕ) → ◌≡◌ {A = Result Cipher} (refused 0) (refused (suc n)) → ⊥
other n q = let z : 0 ≡ suc n = cc in omega arith

-- 0 is no refusal of set up
check_not_0 : (code k v size : ℕ) → set_up_check code k v size ≡ refused 0 → ⊥
unfolding set_up_check
check_not_0 code k v size e =
    after_without 1 (by_code code) _ e (other 0) λ c e₁ r₁.
    after_unless 2 (eqb k (key_length c)) _ r₁ (other 1) λ e₂ r₂.
    after_unless 3 (eqb v (iv_length c)) _ r₂ (other 2) λ e₃ r₃.
    after_unless 4 (eqb size (area_length c)) _ r₃ (other 3) λ e₄ r₄.
    no_refusal r₄

set_up_not_0 : (code : ℕ) (key iv area : List ℕ) → set_up code key iv area ≡ refused 0 → ⊥
unfolding set_up
set_up_not_0 code key iv area e =
    check_not_0 code (length key) (length iv) (length area)
    ((refused_iff _ (set_up_check code (length key) (length iv) (length area)) 0).0 e)

module _ (h : Head) (seed count code : ℕ) (key iv area : List ℕ) where
  pub seed_zero : seed ≡ 0 → record { refusal = 17; value = engine_of h area } ≡ test_load_call h seed count code key iv area
  unfolding test_load_call test_load seed_and_count
  seed_zero e = rw (eq-eqb seed 0 e)

  module _ (s : seed ≡ 0 → ⊥) where
    pub many_calls : 1000 < count → record { refusal = 18; value = engine_of h area } ≡ test_load_call h seed count code key iv area
    unfolding test_load_call test_load seed_and_count
    many_calls l = rw (ne_eqb seed 0 s, lt-leb count 1000 l)

    -- `n`, `new` and `area'` are what the set up leaves
    module _ (l : count ≤ 1000) (n : ℕ) (new : Head) (area' : List ℕ)
        (e : record { refusal = n; value = engine_of new area' } ≡ set_up_call h code key iv area) where
      not_set_up : (x : Result Engine) → set_up code key iv area ≡ x → (n ≡ 0 → ⊥)
          → record { refusal = n; value = engine_of h area' } ≡ test_load_call h seed count code key iv area
      unfolding test_load_call test_load seed_and_count set_up_call
      not_set_up (refused m) q z =
          let o = rw q at e in
          rw (
            ne_eqb seed 0 s,
            le-leb count 1000 l,
            q,
            ap (λ (y : Outcome Engine). y.refusal) o,
            ap (λ (y : Outcome Engine). y.value.area) o,
          )
      not_set_up (accepted x) q z = absurd (z (ap (λ (o : Outcome Engine). o.refusal) (rw q at e)))

      pub set_up_refused : (n ≡ 0 → ⊥)
          → record { refusal = n; value = engine_of h area' } ≡ test_load_call h seed count code key iv area
      set_up_refused = not_set_up (set_up code key iv area) refl

      is_set_up : (last : Head) (area'' : List ℕ) (x : Result Engine) → set_up code key iv area ≡ x → n ≡ 0
          → engine_of last area'' ≡ run_calls (generated_calls seed count) (engine_of new area')
          → record { refusal = 0; value = engine_of last area'' } ≡ test_load_call h seed count code key iv area
      unfolding test_load_call test_load seed_and_count set_up_call
      is_set_up last area'' (refused m) q z t =
          let y : m ≡ 0 = sym (ap (λ (o : Outcome Engine). o.refusal) (rw q at e)) ∙ z in absurd (set_up_not_0 code key iv area (rw y at q))
      is_set_up last area'' (accepted x) q z t =
          rw (ne_eqb seed 0 s, le-leb count 1000 l, q)
          (ap (λ (y : Engine). record { refusal = 0; value = y }) (rw (ap (λ (o : Outcome Engine). o.value) (rw q at e)) at t))

      pub calls_run : (last : Head) (area'' : List ℕ) → n ≡ 0
          → engine_of last area'' ≡ run_calls (generated_calls seed count) (engine_of new area')
          → record { refusal = 0; value = engine_of last area'' } ≡ test_load_call h seed count code key iv area
      calls_run last area'' = is_set_up last area'' (set_up code key iv area) refl
