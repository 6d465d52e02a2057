-- The word of a head is document 02's: the output of the last step taken, left true by each call that changes the state, and compared straight after
-- 5. Assumes nothing.
use mathlib.Core.Path.{◌≡◌, refl, sym, ap, ◌∙◌, subst}
use mathlib.Core.List.{List, [], ◌∷◌}
use Prim.Native.Nat.{ℕ, ◌+◌, ◌*◌, ◌≤◌}
use native.Mathlib.Nat.{add-zero}
use native.Mathlib.Omega.{arith}
use lib.IntN.{ℤ}
use lib.ListN.{length, replicate}
use Rattle.laws.proofs.Iterate.{forward_none}
use Rattle.cipher.specs.declared.Cipher.{Cipher}
use Rattle.tables.specs.Step.{output}
use Rattle.steps.specs.Steps.{last_output, word_at}
use Rattle.steps.proofs.Words.{last_taken}
use Rattle.keystream.specs.Keystream.{tables_next, ciphered}
use Rattle.keystream.proofs.Positions.{moved_on}
use Rattle.laws.specs.Result.{Result, refused, accepted, outcome}
use Rattle.conditions.specs.Conditions.{set_up_check, cipher_check, move_check, load_check}
use Rattle.engine.specs.declared.Head.{Head}
use Rattle.engine.specs.Head.{head_at, mark_after}
use Rattle.engine.specs.Calls.{Engine, engine_of, head_ready, Ciphered, Loaded, set_up, cipher, cipher_call, move, move_call, load}
use Rattle.theorems.specs.HeadWord.{TrueWord, HeadWord}
use Rattle.laws.proofs.Results.{no_refusal, accepted_one, after_line}
use Rattle.conditions.proofs.Shows.{word_shows}
use Rattle.theorems.proofs.Conditions.{set_up_shows, cipher_shows, move_shows}
use Rattle.test_load.specs.Words.{GeneratedCall, move_to_byte, cipher_zeros, generated_calls}
use Rattle.test_load.specs.TestLoad.{run_call, run_calls, test_load}
use Rattle.move_to.specs.MoveTo.{move_to}
use Rattle.theorems.proofs.Encipher.{enciphered}
use Rattle.theorems.proofs.GeneratedCalls.{seed_shows}
use Rattle.theorems.proofs.Compares.{cipher_compares, encipher_compares, move_compares, write_compares, recover_compares}

of_step : (c : Cipher) (s : List ℕ) (i r : ℕ) → 1 ≤ r → r ≤ 4 → word_at c s (4 * i + r) ≡ output c s i
of_step c s i r l m = last_taken c s i _ (omega arith)

at_0 : (c : Cipher) (s : List ℕ) → word_at c s 0 ≡ 0
unfolding last_output
at_0 c s = refl

set_up_leaves : (code : ℕ) (key iv area : List ℕ) (e : Engine) → set_up code key iv area ≡ accepted e → TrueWord e
unfolding set_up
set_up_leaves code key iv area e q =
    after_line (set_up_check code (length key) (length iv) (length area)) _ q (λ _. no_refusal) λ c e₁ r₁.
    subst TrueWord (accepted_one refl r₁)
    (record { cipher = c; code_is = (set_up_shows code (length key) (length iv) (length area) c e₁).code_is; word_is = refl })

cipher_leaves : (h : Head) (area bytes : List ℕ) (r : Ciphered) → cipher h area bytes ≡ accepted r → TrueWord r.engine
unfolding cipher
cipher_leaves h area bytes r q =
    after_line (cipher_check (head_ready h area) h.position (length bytes)) _ q (λ _. no_refusal) λ c e₁ r₁.
    let w = word_shows h.code h.position h.word area c (cipher_shows _ h.position (length bytes) c e₁).0 in
    subst (λ (x : Ciphered). TrueWord x.engine) (accepted_one refl r₁)
    (record { cipher = c; code_is = w.is_ready.code_is; word_is = refl })

move_leaves : (h : Head) (area : List ℕ) (d : ℤ) (e : Engine) → move h area d ≡ accepted e → TrueWord e
unfolding move
move_leaves h area d e q =
    after_line (move_check (head_ready h area) h.position d) _ q (λ _. no_refusal) λ m e₁ r₁.
    let w = word_shows h.code h.position h.word area m.cipher (move_shows _ h.position d m e₁).begun_is in
    subst TrueWord (accepted_one refl r₁)
    (record { cipher = m.cipher; code_is = w.is_ready.code_is; word_is = refl })

load_leaves : (string area : List ℕ) (o : Loaded) → load string area ≡ accepted o → TrueWord o.engine
unfolding load
load_leaves string area o q =
    after_line (load_check string (length area)) _ q (λ _. no_refusal) λ l e₁ r₁.
    subst (λ (x : Loaded). TrueWord x.engine) (accepted_one refl r₁)
    (record { cipher = l.cipher; code_is = refl; word_is = refl })

-- a refused call leaves the engine, and so its word
kept_true : {B : Type 0} (engine : B → Engine) (old : B) (r : Result B) → TrueWord (engine old) → ((x : B) → r ≡ accepted x → TrueWord (engine x))
    → TrueWord (engine (outcome old r).value)
kept_true engine old (refused n) t k = t
kept_true engine old (accepted x) t k = k x refl

calls_leave : (calls : List GeneratedCall) (e : Engine) → TrueWord e → TrueWord (run_calls calls e)
unfolding run_calls run_call move_to move_call cipher_call
calls_leave [] e t = t
calls_leave (move_to_byte byte ∷ calls) e t =
    calls_leave calls _
    (kept_true (λ (x : Engine). x) _ (move e.head e.area _) t λ x q. move_leaves e.head e.area _ x q)
calls_leave (cipher_zeros n ∷ calls) e t =
    calls_leave calls _
    (kept_true (λ (x : Ciphered). x.engine) _ (cipher e.head e.area (replicate n 0)) t λ x q.
    cipher_leaves e.head e.area (replicate n 0) x q)

test_load_leaves : (seed count code : ℕ) (key iv area : List ℕ) (e : Engine) → test_load seed count code key iv area ≡ accepted e → TrueWord e
unfolding test_load
test_load_leaves seed count code key iv area e q =
    after_line (set_up code key iv area) _ (seed_shows seed count _ q).2 (λ _. no_refusal) λ x e₁ r₁.
    subst TrueWord (accepted_one refl r₁) (calls_leave (generated_calls seed count) x (set_up_leaves code key iv area x e₁))

no_bytes : (h : Head) (area : List ℕ) (r : Ciphered) → cipher h area [] ≡ accepted r → r ≡ record { engine = engine_of h area; bytes = [] }
unfolding cipher ciphered mark_after
no_bytes h area r q =
    after_line (cipher_check (head_ready h area) h.position 0) _ q (λ _. no_refusal) λ c e₁ r₁.
    let w = word_shows h.code h.position h.word area c (cipher_shows _ h.position 0 c e₁).0 in
    sym (accepted_one refl r₁)
    ∙ rw (moved_on c area h.position 0, forward_none (tables_next c) area h.position, add-zero h.position)
    (ap (λ (v : ℕ). record { engine = engine_of (head_at h.code h.position v h.mark) area; bytes = [] }) (sym w.word_is))

pub head_word : HeadWord
head_word = record {
  at_0 = at_0;
  of_step = of_step;
  set_up_leaves = set_up_leaves;
  cipher_leaves = cipher_leaves;
  encipher_leaves = λ h area volume r e. cipher_leaves h area volume r (enciphered h area volume r e).ciphers;
  move_leaves = move_leaves;
  load_leaves = load_leaves;
  test_load_leaves = test_load_leaves;
  no_bytes = no_bytes;
  cipher_compares = cipher_compares;
  encipher_compares = encipher_compares;
  move_compares = move_compares;
  write_compares = write_compares;
  recover_compares = recover_compares;
}
