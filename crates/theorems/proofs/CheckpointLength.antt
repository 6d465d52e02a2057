-- The length of a checkpoint is document 02's, and write answers 8 exactly where fewer bytes are lent. Assumes nothing.
use mathlib.Core.Path.{◌≡◌, refl, sym, ap, ◌∙◌, subst}
use mathlib.Core.List.{List}
use Prim.Native.Nat.{ℕ, ◌≤◌}
use native.Mathlib.Omega.{arith}
use lib.ListN.{length}
use Rattle.cipher.specs.declared.Cipher.{Cipher}
use Rattle.cipher.specs.declared.Cipher.TheVariants.{Hc128}
use Rattle.cipher.specs.Numbers.{by_code, code_of}
use Rattle.cipher.proofs.Codes.{code_of_lem, same_code}
use Rattle.cipher.proofs.Sizes.{sizes}
use Rattle.steps.specs.Steps.{last_output}
use Rattle.varint.proofs.Groups.{number_last, number_count}
use Rattle.checkpoint.specs.Checkpoint.{length_of, longest}
use Rattle.checkpoint.proofs.Checkpoint.{length_longest}
use Rattle.laws.specs.Result.{Result, refused, accepted, Outcome, outcome}
use Rattle.conditions.specs.Conditions.{head_check}
use Rattle.conditions.proofs.Conditions.{head_accepted}
use Rattle.engine.specs.declared.Head.{Head}
use Rattle.engine.specs.Head.{head_at}
use Rattle.engine.specs.Calls.{head_ready, Written, write, checkpoint_length, checkpoint_length_call}
use Rattle.theorems.specs.Demand3.{given}
use Rattle.theorems.specs.CheckpointLength.{CheckpointLength}
use Rattle.laws.proofs.Results.{no_refusal, accepted_one, after_line}
use Rattle.conditions.proofs.Shows.{word_shows, word_accepted}
use Rattle.theorems.proofs.Conditions.{head_shows}
use Rattle.theorems.proofs.Writes.{write_shows, write_enough, write_too_few, write_iff, write_8_iff}

returned : (h : Head) (area lent : List ℕ) (w : Written) (c : Cipher)
    → head_ready h area ≡ accepted c → write h area lent ≡ accepted w
    → (w.length ≡ length_of c h.position) × (w.length ≡ length (given w))
    × (checkpoint_length h.code h.position ≡ accepted w.length)
unfolding checkpoint_length
returned h area lent w c r e =
    let (d, s) = write_shows h area lent w e in
    let q = (word_shows h.code h.position h.word area c r).is_ready in
    let same : d ≡ c = same_code d c (sym s.is_ready.code_is ∙ q.code_is) in
    let n : w.length ≡ length_of c h.position = s.length_is ∙ ap (λ (x : Cipher). length_of x h.position) same in
    let k = head_accepted h.code h.position c (ap by_code q.code_is ∙ code_of_lem c) q.within_limit in
    (n, sym s.as_long, rw k (ap accepted (sym n)))

-- ── what checkpoint length gives ──

module _ {C : Type 0} where
  after_length : (code position n : ℕ) → checkpoint_length code position ≡ accepted n
      → ((c : Cipher) → code ≡ code_of c → n ≤ longest c → C) → C
  unfolding checkpoint_length
  after_length code position n e k =
      after_line (head_check code position) _ e (λ _. no_refusal) λ c e₁ r₁.
      let (code_is, l) = head_shows code position c e₁ in
      let h = length_longest c position (omega (arith, l)) in
      k c code_is (omega (arith, h, accepted_one refl r₁))

at_most : (c : Cipher) (position n : ℕ) → checkpoint_length (code_of c) position ≡ accepted n → n ≤ longest c
at_most c position n e =
    after_length (code_of c) position n e λ d q l. subst (λ (x : Cipher). n ≤ longest x) (sym (same_code c d q)) l

-- whatever the code and the position are, and where it is refused
pub told_within : (code position : ℕ) (o : Outcome ℕ) → o ≡ checkpoint_length_call code position → o.value ≤ 8197
unfolding checkpoint_length_call
told_within code position o e = rw e (within (checkpoint_length code position) refl)
  where
    within : (r : Result ℕ) → checkpoint_length code position ≡ r → (outcome 0 r).value ≤ 8197
    within (refused n) e = omega arith
    within (accepted n) e = after_length code position n e λ c q l. omega (arith, sizes c)

-- HC-128 at position 0 is ready on an area of 1,024 words
at_0 : (mark : ℕ) (area : List ℕ) → length area ≡ 1024 → head_ready (head_at 1 0 0 mark) area ≡ accepted Hc128
unfolding last_output
at_0 mark area e = word_accepted Hc128 0 0 area e (omega arith) refl

pub checkpoint_length_lem : CheckpointLength
checkpoint_length_lem = record {
  one_group = λ p l. ap length (number_last p l);
  two_groups = λ p l m. number_count 0 p (omega arith) l m;
  three_groups = λ p l m. number_count 1 p (omega arith) l m;
  four_groups = λ p l m. number_count 2 p (omega arith) l (omega arith);
  returned = returned;
  at_most = at_most;
  enough = write_iff;
  too_few = write_8_iff;
  fits_in_4098 = λ mark area lent e n.
      write_enough (head_at 1 0 0 mark) area lent Hc128 (at_0 mark area e) (omega (arith, ap length (number_last 0 (omega arith))));
  not_in_4097 = λ mark area lent e n.
      write_too_few (head_at 1 0 0 mark) area lent Hc128 (at_0 mark area e) (omega (arith, ap length (number_last 0 (omega arith))));
}
