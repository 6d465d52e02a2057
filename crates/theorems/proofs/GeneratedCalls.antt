-- The generated calls of a test load from the engine and the account of a four: none leaves the stream, each is accepted, and engine, account and mark
-- are those counted from the words alone. Assumes nothing.
use mathlib.Core.Path.{◌≡◌, refl, sym, ap, ap₂, ◌∙◌}
use mathlib.Core.Bool.{Bool, true, false, cond, not}
use mathlib.Core.List.{List, [], ◌∷◌}
use Prim.Native.Nat.{ℕ, zero, suc, ◌+◌, ◌-◌, ◌*◌, ◌/◌, ◌%◌, ◌≤◌, max}
use native.Mathlib.Nat.{max-zero, max-le}
use native.Mathlib.Omega.{arith}
use borrow.Author.Tests.{eq-eqb, ne_eqb, le-leb, leb-true}
use lib.Dec.{eqb, leb}
use lib.ListN.{length, replicate, length-replicate}
use Rattle.cipher.specs.declared.Cipher.{Cipher}
use Rattle.cipher.specs.Numbers.{code_of, area_length}
use Rattle.cipher.proofs.Codes.{code_of_lem}
use Rattle.laws.specs.Result.{Result, refused, accepted, Outcome, ◌>>=◌, ◌>>◌, refuse◌unless◌}
use Rattle.laws.proofs.Iterate.{forward_none}
use Rattle.laws.proofs.Results.{no_refusal}
use Rattle.conditions.specs.Limit.{limit}
use Rattle.tables.specs.Step.{step}
use Rattle.setup.specs.SetUp as SetUp
use Rattle.conditions.specs.Conditions.{set_up_check, cipher_check}
use Rattle.conditions.proofs.Conditions.{ready_accepted}
use Rattle.engine.specs.Head.{mark_after}
use Rattle.keystream.specs.Keystream.{ciphered}
use Rattle.engine.specs.Calls.{Engine, Ciphered, engine_at, set_up, cipher, cipher_call, move, move_call}
use Rattle.move_to.specs.MoveTo.{distance, move_to}
use Rattle.move_to.proofs.Moves.{ends_at}
use Rattle.test_load.specs.Words.{next_word, GeneratedCall, move_to_byte, cipher_zeros, call_of, generated_calls}
use Rattle.test_load.specs.TestLoad.{run_call, run_calls, seed_and_count, test_load}
use Rattle.theorems.specs.Account.{called, answered, run, Four, IsFour, Account, holds, account_ready, at_position, at_start, feed_cipher, feed_move, feed_generated, feed, account, tables_of, engine_of_four}
use Rattle.theorems.specs.Farthest.{with_end, reached_by_cipher, reached_by_generated, reached_by, reached_since, largest}
use Rattle.theorems.specs.TestLoad.{end_of_call, end_of_calls, ends_of_ciphers, as_calls, EachAccepted}
use Rattle.theorems.proofs.Tables.{four_true, four_moved}
use Rattle.theorems.proofs.Conditions.{move_accepted}

-- ── the conditions of a test load ──

no_true : false ≡ true → ⊥
no_true e = let z : ◌≡◌ {A = ℕ} 0 1 = cc in omega arith

both_lines : {A : Type 0} (m n : ℕ) (a b : Bool) (r : Result A) {x : A} → (((refuse m unless a) >> (refuse n unless b)) >> r) ≡ accepted x
    → (a ≡ true) × (b ≡ true) × (r ≡ accepted x)
both_lines m n true true r e = (refl, refl, e)
both_lines m n true false r e = no_refusal (sym e)
both_lines m n false b r e = no_refusal (sym e)

-- what they show where they and what comes after them are accepted
pub seed_shows : {A : Type 0} (seed count : ℕ) (r : Result A) {x : A} → (seed_and_count seed count >> r) ≡ accepted x
    → (seed ≡ 0 → ⊥) × (count ≤ 1000) × (r ≡ accepted x)
unfolding seed_and_count
seed_shows seed count r e =
    let l = both_lines 17 18 (not (eqb seed 0)) (leb count 1000) r e in
    ((λ z. no_true (rw (eq-eqb seed 0 z) at l.0)), leb-true count 1000 l.1, l.2)

pub seed_accepted : (seed count : ℕ) → (seed ≡ 0 → ⊥) → count ≤ 1000 → seed_and_count seed count ≡ accepted tt
unfolding seed_and_count
seed_accepted seed count z l = rw (ne_eqb seed 0 z, le-leb count 1000 l)

-- the lines of a test load, with those of set up among them
lines : {A B C : Type 0} (r : Result A) (q : Result B) (f : B → C) (g : C → C)
    → (r >> ((q >>= λ b. accepted (f b)) >>= λ c. accepted (g c))) ≡ ((r >> q) >>= λ b. accepted (g (f b)))
lines (refused n) q f g = refl
lines (accepted a) (refused n) f g = refl
lines (accepted a) (accepted b) f g = refl

pub load_lines : (seed count code : ℕ) (key iv area : List ℕ)
    → test_load seed count code key iv area
    ≡ ((seed_and_count seed count >> set_up_check code (length key) (length iv) (length area))
    >>= λ c. accepted (run_calls (generated_calls seed count) (engine_at code c 0 0 (SetUp.set_up c key iv))))
unfolding test_load set_up
load_lines seed count code key iv area = lines (seed_and_count seed count) (set_up_check code (length key) (length iv) (length area)) _ _

-- the engine that set up leaves
pub set_up_four : (code : ℕ) (c : Cipher) (key iv : List ℕ) → code ≡ code_of c
    → engine_at code c 0 0 (SetUp.set_up c key iv) ≡ engine_of_four (at_start c key iv) 0
unfolding tables_of
set_up_four code c key iv e = rw (e, forward_none (step c) (SetUp.set_up c key iv) 0)

-- ── no generated call leaves the stream ──

-- a call of a word ends at most 256 bytes on, or at byte 4,095 at most
call_most : (w p most : ℕ) → p + 256 ≤ most → 4095 ≤ most → end_of_call p (call_of w) ≤ most
unfolding call_of
call_most w p most l m = by_bit (eqb (w % 2) 0)
  where
    by_bit : (even : Bool) → end_of_call p (cond even (move_to_byte (w / 2 % 4096)) (cipher_zeros (w / 2 % 257))) ≤ most
    by_bit true = omega arith
    by_bit false = omega arith

-- every call of a list ends within the limit, where the first begins at a position
abbrev pub Stay : (position : ℕ) → List GeneratedCall → Type 0
Stay position [] = Unit {0}
Stay position (call ∷ calls) = (end_of_call position call ≤ limit) × Stay (end_of_call position call) calls

stay_from : (word n p : ℕ) → n ≤ 1000 → p + 256 * n ≤ 260095 → Stay p (generated_calls word n)
unfolding generated_calls
stay_from word zero p l m = tt
stay_from word (suc n) p l m =
    let e = call_most (next_word word) p (260095 - 256 * n) (omega arith) (omega arith) in
    (omega (arith, e), stay_from (next_word word) n (end_of_call p (call_of (next_word word))) (omega arith) (omega (arith, e)))

pub stay : (seed count : ℕ) → count ≤ 1000 → Stay 0 (generated_calls seed count)
stay seed count l = stay_from seed count 0 l (omega arith)

pub ends_most : (word n p most : ℕ) → p ≤ most → 4095 ≤ most → end_of_calls p (generated_calls word n) ≤ 256 * n + most
unfolding generated_calls end_of_calls
ends_most word zero p most l m = omega arith
ends_most word (suc n) p most l m =
    let e = call_most (next_word word) p (most + 256) (omega arith) (omega arith) in
    omega (arith, ends_most (next_word word) n (end_of_call p (call_of (next_word word))) (most + 256) e (omega arith))

-- ── where they end, and what they reach ──

pub end_within : (calls : List GeneratedCall) (p : ℕ) → p ≤ limit → Stay p calls → end_of_calls p calls ≤ limit
unfolding end_of_calls
end_within [] p l s = l
end_within (call ∷ calls) p l s = end_within calls (end_of_call p call) s.0 s.1

larger_most : (n end most : ℕ) (reached : List ℕ) → end ≤ most → largest reached ≤ most → largest (with_end n end reached) ≤ most
unfolding largest
larger_most zero end most reached l m = m
larger_most (suc n) end most reached l m = max-le m l

pub reach_within : (calls : List GeneratedCall) (p : ℕ) → Stay p calls → largest (ends_of_ciphers p calls) ≤ limit
unfolding ends_of_ciphers largest
reach_within [] p s = omega arith
reach_within (move_to_byte byte ∷ calls) p s = reach_within calls byte s.1
reach_within (cipher_zeros n ∷ calls) p s = larger_most n (p + n) limit _ s.0 (reach_within calls (p + n) s.1)

before_most : (call : GeneratedCall) (calls : List GeneratedCall) (p most : ℕ) → end_of_call p call ≤ most
    → largest (ends_of_ciphers (end_of_call p call) calls) ≤ most → largest (ends_of_ciphers p (call ∷ calls)) ≤ most
unfolding ends_of_ciphers
before_most (move_to_byte byte) calls p most l m = m
before_most (cipher_zeros n) calls p most l m = larger_most n (p + n) most _ l m

pub reach_most : (word n p most : ℕ) → p ≤ most → 4095 ≤ most → largest (ends_of_ciphers p (generated_calls word n)) ≤ 256 * n + most
unfolding generated_calls ends_of_ciphers largest
reach_most word zero p most l m = omega arith
reach_most word (suc n) p most l m =
    let call = call_of (next_word word) in
    let e = call_most (next_word word) p (most + 256) (omega arith) (omega arith) in
    let others = reach_most (next_word word) n (end_of_call p call) (most + 256) e (omega arith) in
    before_most call (generated_calls (next_word word) n) p (256 * suc n + most) (omega (arith, e)) (omega (arith, others))

-- one call more in front of the others
regroup : (m e l : ℕ) → max (max m e) l ≡ max m (max l e)
regroup m e l = omega arith

mark_before : (n m end : ℕ) (others : List ℕ) → max (mark_after m end n) (largest others) ≡ max m (largest (with_end n end others))
unfolding mark_after largest
mark_before zero m end others = refl
mark_before (suc n) m end others = regroup m end (largest others)

reached_before : (n end : ℕ) (reached others : List ℕ)
    → max (largest (with_end n end reached)) (largest others) ≡ max (largest reached) (largest (with_end n end others))
unfolding largest
reached_before zero end reached others = refl
reached_before (suc n) end reached others = regroup (largest reached) end (largest others)

-- ── from the engine of a four ──

-- a move to a position, whatever the mark
pub moved_four : (f : Four) (mark q : ℕ) → IsFour f → q ≤ limit
    → move_to q (engine_of_four f mark) ≡ record { refusal = 0; value = engine_of_four (at_position f q) mark }
unfolding move_to move_call move
moved_four f mark q h l =
    let p = f.position in
    rw (move_accepted _ f.cipher p (distance p q) q (four_true f (tables_of f) _ h refl refl) (ends_at p q) l, four_moved f q h)

module _ (f : Four) (mark n : ℕ) (h : IsFour f) (l : f.position + n ≤ limit) where
  abbrev zeros : List ℕ
  zeros = replicate n 0

  -- what a cipher call over n zero bytes leaves
  abbrev left : Ciphered
  left = record {
    engine = engine_of_four (at_position f (f.position + n)) (mark_after mark (f.position + n) n);
    bytes = ciphered f.cipher (tables_of f) f.position zeros;
  }

  ciphered_four : cipher_call (engine_of_four f mark).head (tables_of f) zeros ≡ record { refusal = 0; value = left }
  unfolding cipher_call cipher cipher_check
  ciphered_four =
      rw (four_true f (tables_of f) _ h refl refl, length-replicate {A = ℕ} n 0, le-leb (f.position + n) limit l, four_moved f (f.position + n) h)

-- the four at another position of the stream
abbrev pub moved_is : (f : Four) (q : ℕ) → IsFour f → q ≤ limit → IsFour (at_position f q)
moved_is f q h l = record { pair = h.pair; within = l }

pub runs_to : (calls : List GeneratedCall) (f : Four) (mark : ℕ) → IsFour f → Stay f.position calls
    → run_calls calls (engine_of_four f mark)
    ≡ engine_of_four (at_position f (end_of_calls f.position calls)) (max mark (largest (ends_of_ciphers f.position calls)))
unfolding run_calls run_call end_of_calls ends_of_ciphers largest
runs_to [] f mark h s = ap (engine_of_four f) (sym (max-zero mark))
runs_to (move_to_byte byte ∷ calls) f mark h s =
    ap (λ (o : Outcome Engine). run_calls calls o.value) (moved_four f mark byte h s.0)
    ∙ runs_to calls (at_position f byte) mark (moved_is f byte h s.0) s.1
runs_to (cipher_zeros n ∷ calls) f mark h s =
    let q = f.position + n in
    ap (λ (o : Outcome Ciphered). run_calls calls o.value.engine) (ciphered_four f mark n h s.0)
    ∙ runs_to calls (at_position f q) (mark_after mark q n) (moved_is f q h s.0) s.1
    ∙ ap (engine_of_four (at_position f (end_of_calls q calls))) (mark_before n mark q (ends_of_ciphers q calls))

-- the generated calls as calls of a list: each is accepted, and they leave what the load leaves
pub each_of : (calls : List GeneratedCall) (f : Four) (mark : ℕ) → IsFour f → Stay f.position calls
    → EachAccepted (engine_of_four f mark) (as_calls f.position calls)
unfolding as_calls answered called move_to
each_of [] f mark h s = tt
each_of (move_to_byte byte ∷ calls) f mark h s =
    let m = moved_four f mark byte h s.0 in (
      ap (λ (o : Outcome Engine). o.refusal) m,
      rw (ap (λ (o : Outcome Engine). o.value) m) (each_of calls (at_position f byte) mark (moved_is f byte h s.0) s.1),
    )
each_of (cipher_zeros n ∷ calls) f mark h s =
    let q = f.position + n in
    let m = ciphered_four f mark n h s.0 in (
      ap (λ (o : Outcome Ciphered). o.refusal) m,
      rw (ap (λ (o : Outcome Ciphered). o.value.engine) m) (each_of calls (at_position f q) (mark_after mark q n) (moved_is f q h s.0) s.1),
    )

pub run_as : (calls : List GeneratedCall) (f : Four) (mark : ℕ) → IsFour f → Stay f.position calls
    → run_calls calls (engine_of_four f mark) ≡ run (as_calls f.position calls) (engine_of_four f mark)
unfolding run_calls run_call as_calls run called move_to
run_as [] f mark h s = refl
run_as (move_to_byte byte ∷ calls) f mark h s =
    let m = ap (λ (o : Outcome Engine). o.value) (moved_four f mark byte h s.0) in
    ap (run_calls calls) m ∙ run_as calls (at_position f byte) mark (moved_is f byte h s.0) s.1 ∙ ap (run (as_calls byte calls)) (sym m)
run_as (cipher_zeros n ∷ calls) f mark h s =
    let q = f.position + n in
    let m = ap (λ (o : Outcome Ciphered). o.value.engine) (ciphered_four f mark n h s.0) in
    ap (run_calls calls) m ∙ run_as calls (at_position f q) (mark_after mark q n) (moved_is f q h s.0) s.1 ∙ ap (run (as_calls q calls)) (sym m)

-- ── from the account of a four, where the area has its cipher's size ──

module _ (size : ℕ) where
  fed_move : (f : Four) (byte : ℕ) → IsFour f → size ≡ area_length f.cipher → byte ≤ limit
      → feed_move size (holds f) (distance f.position byte) ≡ holds (at_position f byte)
  fed_move f byte h z l =
      let p = f.position in
      let c = f.cipher in
      rw (move_accepted _ c p (distance p byte) byte (ready_accepted (code_of c) p size c (code_of_lem c) z h.within) (ends_at p byte) l)

  cipher_checked : (f : Four) (n : ℕ) → IsFour f → size ≡ area_length f.cipher → f.position + n ≤ limit
      → cipher_check (account_ready size (holds f)) f.position n ≡ accepted f.cipher
  unfolding cipher_check
  cipher_checked f n h z l =
      let c = f.cipher in
      rw (ready_accepted (code_of c) f.position size c (code_of_lem c) z h.within, le-leb (f.position + n) limit l)

  fed_cipher : (f : Four) (n : ℕ) → IsFour f → size ≡ area_length f.cipher → f.position + n ≤ limit
      → feed_cipher size (holds f) n ≡ holds (at_position f (f.position + n))
  fed_cipher f n h z l = rw (cipher_checked f n h z l)

  reached_cipher : (f : Four) (n : ℕ) (reached : List ℕ) → IsFour f → size ≡ area_length f.cipher → f.position + n ≤ limit
      → reached_by_cipher size (holds f) reached n ≡ with_end n (f.position + n) reached
  reached_cipher f n reached h z l = rw (cipher_checked f n h z l)

  pub fed_to : (calls : List GeneratedCall) (f : Four) → IsFour f → size ≡ area_length f.cipher → Stay f.position calls
      → feed_generated size (holds f) calls ≡ holds (at_position f (end_of_calls f.position calls))
  unfolding feed_generated end_of_calls
  fed_to [] f h z s = refl
  fed_to (move_to_byte byte ∷ calls) f h z s =
      rw (fed_move f byte h z s.0) (fed_to calls (at_position f byte) (moved_is f byte h s.0) z s.1)
  fed_to (cipher_zeros n ∷ calls) f h z s =
      let q = f.position + n in
      rw (fed_cipher f n h z s.0) (fed_to calls (at_position f q) (moved_is f q h s.0) z s.1)

  pub reached_to : (calls : List GeneratedCall) (f : Four) (reached : List ℕ) → IsFour f → size ≡ area_length f.cipher → Stay f.position calls
      → largest (reached_by_generated size (holds f) reached calls) ≡ max (largest reached) (largest (ends_of_ciphers f.position calls))
  unfolding reached_by_generated ends_of_ciphers largest
  reached_to [] f reached h z s = sym (max-zero (largest reached))
  reached_to (move_to_byte byte ∷ calls) f reached h z s =
      rw (fed_move f byte h z s.0) (reached_to calls (at_position f byte) reached (moved_is f byte h s.0) z s.1)
  reached_to (cipher_zeros n ∷ calls) f reached h z s =
      let q = f.position + n in
      rw (fed_cipher f n h z s.0, reached_cipher f n reached h z s.0, ← reached_before n q reached (ends_of_ciphers q calls))
      (reached_to calls (at_position f q) (with_end n q reached) (moved_is f q h s.0) z s.1)

  -- the generated calls as calls of a list feed the account, and are counted, as they are
  pub account_as : (calls : List GeneratedCall) (f : Four) → IsFour f → size ≡ area_length f.cipher → Stay f.position calls
      → feed_generated size (holds f) calls ≡ account size (as_calls f.position calls) (holds f)
  unfolding feed_generated as_calls account feed
  account_as [] f h z s = refl
  account_as (move_to_byte byte ∷ calls) f h z s =
      let m = fed_move f byte h z s.0 in
      ap (λ (a : Account). feed_generated size a calls) m
      ∙ account_as calls (at_position f byte) (moved_is f byte h s.0) z s.1
      ∙ ap (account size (as_calls byte calls)) (sym m)
  account_as (cipher_zeros n ∷ calls) f h z s =
      let q = f.position + n in
      let m = fed_cipher f n h z s.0 in
      ap (λ (a : Account). feed_generated size a calls) m
      ∙ account_as calls (at_position f q) (moved_is f q h s.0) z s.1
      ∙ ap (account size (as_calls q calls)) (sym m)
      ∙ ap (λ (k : ℕ). account size (as_calls q calls) (feed_cipher size (holds f) k)) (sym (length-replicate {A = ℕ} n 0))

  pub reached_as : (calls : List GeneratedCall) (f : Four) (reached : List ℕ) → IsFour f → size ≡ area_length f.cipher → Stay f.position calls
      → reached_by_generated size (holds f) reached calls ≡ reached_since size (as_calls f.position calls) (holds f) reached
  unfolding reached_by_generated as_calls reached_since reached_by feed
  reached_as [] f reached h z s = refl
  reached_as (move_to_byte byte ∷ calls) f reached h z s =
      let m = fed_move f byte h z s.0 in
      ap (λ (a : Account). reached_by_generated size a reached calls) m
      ∙ reached_as calls (at_position f byte) reached (moved_is f byte h s.0) z s.1
      ∙ ap (λ (a : Account). reached_since size (as_calls byte calls) a reached) (sym m)
  reached_as (cipher_zeros n ∷ calls) f reached h z s =
      let q = f.position + n in
      let m = fed_cipher f n h z s.0 in
      let r = reached_cipher f n reached h z s.0 in
      ap₂ (λ (a : Account) (l : List ℕ). reached_by_generated size a l calls) m r
      ∙ reached_as calls (at_position f q) (with_end n q reached) (moved_is f q h s.0) z s.1
      ∙ ap₂ (λ (a : Account) (l : List ℕ). reached_since size (as_calls q calls) a l) (sym m) (sym r)
      ∙ ap (λ (k : ℕ). reached_since size (as_calls q calls) (feed_cipher size (holds f) k) (reached_by_cipher size (holds f) reached k))
      (sym (length-replicate {A = ℕ} n 0))
