-- Demand 2 holds of the calls: ciphering is with the account's keystream, recover gives its key and IV, and a move is undone by the move back.
-- Assumes nothing.
use mathlib.Core.Path.{◌≡◌, refl, sym, ap, ap₂, ◌∙◌, subst, subst₂}
use mathlib.Core.List.{List, []}
use Prim.Native.Nat.{ℕ, ◌+◌, ◌≤◌, ◌<◌}
use borrow.Author.Tests.{le-leb}
use lib.Dec.{leb}
use lib.IntN.{ℤ, pos, neg_ℤ, ◌+ℤ◌, +ℤ-neg_ℤ_cancel}
use lib.ListN.{length, get_or}
use Rattle.word.specs.Word.{◌⊕◌}
use Rattle.word.specs.Bytes.{AllWords}
use Rattle.cipher.specs.declared.Cipher.{Cipher}
use Rattle.cipher.specs.Numbers.{code_of, area_length, key_length, iv_length}
use Rattle.cipher.proofs.Codes.{code_of_lem, same_code}
use Rattle.laws.proofs.Iterate.{forward_none}
use Rattle.keys.specs.Key.{Pair}
use Rattle.tables.specs.Area.{Area}
use Rattle.tables.specs.Step.{step}
use Rattle.steps.specs.Steps.{moved, word_at}
use Rattle.keystream.specs.Keystream.{keystream, ciphered}
use Rattle.keystream.proofs.Ciphered.{length_ciphered}
use Rattle.keystream.proofs.Keystream.{ciphered_keystream}
use Rattle.setup.specs.SetUp as SetUp
use Rattle.engine.specs.declared.Head.{Head}
use Rattle.laws.specs.Result.{accepted}
use Rattle.conditions.specs.Limit.{limit}
use Rattle.engine.specs.Head.{head_at, with_mark, mark_after}
use Rattle.conditions.specs.Conditions.{cipher_check, end_of, move_check}
use Rattle.engine.specs.Calls.{Engine, engine_of, engine_at, head_ready, Ciphered, set_up, cipher, move, recover}
use Rattle.conditions.proofs.Conditions.{set_up_accepted}
use Rattle.engine.proofs.Calls.{mark_again}
use Rattle.theorems.specs.Account.{Four, IsFour, at_position, empty, holds, tables_of, engine_of_four}
use Rattle.theorems.specs.Farthest.{largest}
use Rattle.theorems.specs.Demand2.{Demand2}
use Rattle.laws.proofs.Results.{no_refusal, accepted_one, after_line, after_unless}
use Rattle.theorems.proofs.Tables.{moved_area, moved_undone, undo_finds, four_true, four_moved}
use Rattle.theorems.proofs.Twice.{ciphered_twice}
use Rattle.conditions.proofs.Shows.{word_shows, word_accepted}
use Rattle.theorems.proofs.Conditions.{cipher_shows, move_shows, move_accepted, recover_finds}
use Rattle.theorems.proofs.Agree.{head_of, agree, agree_four}
use Rattle.theorems.proofs.HeadMark.{cipher_mark, four_spent}

-- ── from the head and the tables of a four ──

four_cipherable : (f : Four) (mark : ℕ) (area bytes : List ℕ) → IsFour f → area ≡ tables_of f → f.position + length bytes ≤ limit
    → (r : Ciphered) × (cipher (head_of (holds f) mark) area bytes ≡ accepted r)
unfolding cipher cipher_check
four_cipherable f mark area bytes h t l =
    rw (four_true f area _ h t refl, le-leb (f.position + length bytes) limit l) (_, refl)

pub four_movable : (f : Four) (mark : ℕ) (d : ℤ) (end : ℕ) → IsFour f → pos f.position +ℤ d ≡ pos end → end ≤ limit
    → move (head_of (holds f) mark) (tables_of f) d ≡ accepted (engine_of_four (at_position f end) mark)
unfolding move
four_movable f mark d end h e l =
    rw (
      move_accepted _ f.cipher f.position d end (four_true f (tables_of f) _ h refl refl) e l,
      four_moved f end h,
    )

-- the end of a move that is accepted
four_moved_to : (f : Four) (mark : ℕ) (d : ℤ) (e : Engine) → IsFour f → move (head_of (holds f) mark) (tables_of f) d ≡ accepted e
    → (end : ℕ) × (pos f.position +ℤ d ≡ pos end) × (end ≤ limit) × (e ≡ engine_of_four (at_position f end) mark)
unfolding move
four_moved_to f mark d e h q =
    after_line (move_check (head_ready (head_of (holds f) mark) (tables_of f)) f.position d) _ q (λ _. no_refusal) λ m e₁ r₁.
    let a = move_shows _ f.position d m e₁ in
    (m.end, a.end_is, a.end_within, accepted_one q (four_movable f mark d m.end h a.end_is a.end_within))

pub four_set_up : (c : Cipher) (key iv area : List ℕ) → Pair c key iv → length area ≡ area_length c
    → set_up (code_of c) key iv area ≡ accepted (engine_of_four (record { cipher = c; key = key; iv = iv; position = 0 }) 0)
unfolding set_up tables_of
four_set_up c key iv area pair z =
    rw (
      set_up_accepted (code_of c) (length key) (length iv) (length area) c (code_of_lem c) pair.key_long pair.iv_long z,
      forward_none (step c) (SetUp.set_up c key iv) 0,
    )

four_enciphered : (f : Four) (mark : ℕ) (area bytes : List ℕ) (r : Ciphered) → area ≡ tables_of f
    → cipher (head_of (holds f) mark) area bytes ≡ accepted r → (i : ℕ) → i < length bytes
    → get_or r.bytes i 0 ≡ get_or bytes i 0 ⊕ keystream f.cipher (SetUp.set_up f.cipher f.key f.iv) (f.position + i)
unfolding cipher tables_of
four_enciphered f mark area bytes r t e i l =
    after_line (cipher_check (head_ready (head_of (holds f) mark) area) f.position (length bytes)) _ e (λ _. no_refusal) λ c e₁ r₁.
    let shows = word_shows (code_of f.cipher) f.position _ area c (cipher_shows _ f.position (length bytes) c e₁).0 in
    let same : c ≡ f.cipher = sym (same_code f.cipher c shows.is_ready.code_is) in
    ap (λ (x : Ciphered). get_or x.bytes i 0) (sym (accepted_one refl r₁))
    ∙ ap₂ (λ (d : Cipher) (s : List ℕ). get_or (ciphered d s f.position bytes) i 0) same t
    ∙ ciphered_keystream f.cipher _ f.position bytes i l

four_recovered : (f : Four) (mark : ℕ) (area key iv : List ℕ) → IsFour f → area ≡ tables_of f
    → length key ≡ key_length f.cipher → length iv ≡ iv_length f.cipher
    → recover (head_of (holds f) mark) area key iv ≡ accepted (record { engine = engine_of (head_of (holds f) mark) area; key = f.key; iv = f.iv })
unfolding recover tables_of
four_recovered f mark area key iv h t kn vn =
    let r =
    recover_finds (code_of f.cipher) f.position _ area (length key) (length iv) f.cipher
    (word_shows (code_of f.cipher) f.position _ area f.cipher (four_true f area _ h t refl))
    kn
    vn in
    rw (r, t, undo_finds f.cipher f.key f.iv f.position h.pair)

-- ── from any head and tables ──

as_long : (h : Head) (area bytes : List ℕ) (r : Ciphered) → cipher h area bytes ≡ accepted r → length r.bytes ≡ length bytes
unfolding cipher
as_long h area bytes r e =
    after_line (cipher_check (head_ready h area) h.position (length bytes)) _ e (λ _. no_refusal) λ c e₁ r₁.
    ap (λ (x : Ciphered). length x.bytes) (sym (accepted_one refl r₁)) ∙ length_ciphered c area h.position bytes

module _ (c : Cipher) (p q mark : ℕ) (s : List ℕ) (d : ℤ) (area : Area c s) (p-within : p ≤ limit) (q-within : q ≤ limit) where
  back_accepted : pos p +ℤ d ≡ pos q
      → move (head_at (code_of c) q (word_at c (moved c s p q) q) mark) (moved c s p q) (neg_ℤ d) ≡ accepted (engine_at (code_of c) c p mark s)
  unfolding move
  back_accepted e =
      let back : pos q +ℤ neg_ℤ d ≡ pos p = ap (λ (x : ℤ). x +ℤ neg_ℤ d) (sym e) ∙ +ℤ-neg_ℤ_cancel (pos p) d in
      rw (
        move_accepted _ c q (neg_ℤ d) p (word_accepted c q (word_at c (moved c s p q) q) (moved c s p q) (moved_area c s area p q).sized q-within refl) back p-within,
        moved_undone c s area p q,
      )

-- where a move is accepted, so is the move back, and it restores head and tables
move_undone : (h : Head) (area : List ℕ) (d : ℤ) (there : Engine) → AllWords area → move h area d ≡ accepted there
    → move there.head there.area (neg_ℤ d) ≡ accepted (engine_of h area)
unfolding move
move_undone h area d there all e =
    after_line (move_check (head_ready h area) h.position d) _ e (λ _. no_refusal) λ m e₁ r₁.
    let a = move_shows _ h.position d m e₁ in
    let c = m.cipher in
    let p = h.position in
    let q = m.end in
    let w = word_shows h.code p h.word area c a.begun_is in
    let r = w.is_ready in
    let s : Area c area = record { sized = r.sized; words = all } in
    subst
    (λ (x : Engine). move x.head x.area (neg_ℤ d) ≡ accepted (engine_of h area))
    (accepted_one refl r₁)
    (subst₂
    (λ (n v : ℕ).
    move (head_at n q (word_at c (moved c area p q) q) h.mark) (moved c area p q) (neg_ℤ d) ≡ accepted (engine_of (head_at n p v h.mark) area))
    (sym r.code_is)
    (sym w.word_is)
    (back_accepted c p q h.mark area d s r.within_limit a.end_within a.end_is))

-- what a cipher call leaves is, but for the mark, what the move by the number of its bytes leaves, and from the same position it gives the bytes back
module _ (h : Head) (area bytes : List ℕ) (r : Ciphered) (e : cipher h area bytes ≡ accepted r) where
  as_moved : move (with_mark h r.engine.head.mark) area (pos (length bytes)) ≡ accepted r.engine
  unfolding cipher cipher_check move move_check end_of
  as_moved =
      after_line (cipher_check (head_ready h area) h.position (length bytes)) _ e (λ _. no_refusal) λ c e₁ r₁.
      after_line (head_ready h area) _ e₁ (λ _. no_refusal) λ d e₂ r₂.
      after_unless 6 (leb (h.position + length bytes) limit) _ r₂ no_refusal λ e₃ r₃.
      subst (λ (x : Ciphered). move (with_mark h x.engine.head.mark) area (pos (length bytes)) ≡ accepted x.engine) (accepted_one refl r₁)
      (rw (e₂, e₃, accepted_one refl r₃))

  -- whatever the mark was from which the same one comes
  given_back : (mark : ℕ) → mark_after mark (h.position + length bytes) (length bytes) ≡ r.engine.head.mark
      → cipher (with_mark h mark) area r.bytes ≡ accepted (record { engine = r.engine; bytes = bytes })
  unfolding cipher
  given_back mark =
      after_line (cipher_check (head_ready h area) h.position (length bytes)) _ e (λ _. no_refusal) λ c e₁ r₁.
      subst
      (λ (x : Ciphered).
      mark_after mark (h.position + length bytes) (length bytes) ≡ x.engine.head.mark
      → cipher (with_mark h mark) area x.bytes ≡ accepted (record { engine = x.engine; bytes = bytes }))
      (accepted_one refl r₁)
      (λ m. rw (length_ciphered c area h.position bytes, e₁, m, ciphered_twice c area h.position bytes))

none_reached : largest [] ≡ 0
unfolding largest
none_reached = refl

pub demand2 : Demand2
demand2 = record {
  state = λ calls g area f e.
      let h = agree_four calls g area f e in
      λ i. record { head = h.head_is i; area = h.tables_are.1 i };
  untouched = λ calls g area e.
      let h = rw e at (agree calls g area) in
      λ i. record { head = (h.head_is ∙ ap (head_of empty) (ap largest h.reached_is ∙ none_reached)) i; area = h.tables_are i };
  set_up_accepted = four_set_up;
  spent_is = λ calls g area f e.
      let h = agree_four calls g area f e in
      rw h.head_is (four_spent f _ h.tables_are.0);
  cipherable = λ calls g area bytes f e l.
      let h = agree_four calls g area f e in
      rw h.head_is (four_cipherable f _ _ bytes h.tables_are.0 h.tables_are.1 l);
  movable = λ calls g area d f end e q l.
      let h = agree_four calls g area f e in
      rw (h.head_is, h.tables_are.1) (four_movable f _ d end h.tables_are.0 q l);
  moved = λ calls g area d f there e q.
      let h = agree_four calls g area f e in
      four_moved_to f _ d there h.tables_are.0 (rw (h.head_is, h.tables_are.1) at q);
  enciphered = λ calls g area bytes f e r q.
      let h = agree_four calls g area f e in
      four_enciphered f _ _ bytes r h.tables_are.1 (rw h.head_is at q);
  recovered = λ calls g area key iv f e kn vn.
      let h = agree_four calls g area f e in
      rw h.head_is (four_recovered f _ _ key iv h.tables_are.0 h.tables_are.1 kn vn);
  as_long = as_long;
  moved_back = move_undone;
  ciphered_back = λ h area bytes r all e. (
    move_undone (with_mark h r.engine.head.mark) area (pos (length bytes)) r.engine all (as_moved h area bytes r e),
    given_back h area bytes r e r.engine.head.mark
        (rw (cipher_mark h area bytes r e) (mark_again h.mark (h.position + length bytes) (length bytes))),
    given_back h area bytes r e h.mark (sym (cipher_mark h area bytes r e)),
  );
}
