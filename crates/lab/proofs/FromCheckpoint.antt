-- What a checkpoint alone gives: what load accepts is moved back to the tables of set-up.
use mathlib.Core.Path.{◌≡◌, refl, sym, ap, ◌∙◌, subst}
use mathlib.Core.List.{List, [], ◌∷◌, ◌++◌, flatten}
use mathlib.Core.Logic.{⊎_elim}
use Prim.Native.Nat.{ℕ, zero, suc, ◌+◌, ◌≤◌, max}
use native.Mathlib.Nat.{add-zero, add-suc, suc-add, zero-add, add_assoc, max-zero, max-le, max-eq_left, max-eq_right}
use native.Mathlib.Omega.{arith}
use borrow.Author.Tests.{eq-eqb, ne_eqb, le-leb}
use lib.IntN.{pos, neg_ℤ, +ℤ_invr}
use lib.ListN.{length, length-append}
use Rattle.laws.specs.Iterate.{forward}
use Rattle.laws.proofs.Iterate.{forward_none, forward_first}
use Rattle.laws.proofs.Lists.{below_or_not}
use Rattle.word.specs.Word.{◌⊕◌}
use Rattle.word.specs.Bytes.{words}
use Rattle.word.proofs.Bytes.{length_words}
use Rattle.cipher.specs.declared.Cipher.{Cipher}
use Rattle.cipher.specs.declared.Cipher.TheVariants.{Hc128, Hc256}
use Rattle.cipher.specs.Numbers.{code_of, area_length, key_length, iv_length}
use Rattle.cipher.proofs.Codes.{code_of_lem}
use Rattle.tables.specs.Area.{Area}
use Rattle.keys.specs.Key.{Pair}
use Rattle.steps.specs.Steps.{moved, last_output, word_at}
use Rattle.keystream.specs.Keystream.{ciphered, tables_next, tables_after, key_byte}
use Rattle.keystream.proofs.Ciphered.{length_ciphered}
use Rattle.keystream.proofs.Positions.{moved_on}
use Rattle.setup.specs.SetUp as SetUp
use Rattle.setup.specs.SetUp.{found}
use Rattle.setup.proofs.Inverse.{set_up_area}
use Rattle.checkpoint.specs.Checkpoint.{layout, length_of}
use Rattle.checkpoint.proofs.Checkpoint.{layout_length}
use Rattle.engine.specs.declared.Head.{Head}
use Rattle.laws.specs.Result.{Result, refused, accepted, Outcome}
use Rattle.conditions.specs.Limit.{limit}
use Rattle.engine.specs.Head.{fresh_head, head_at, with_mark, mark_after}
use Rattle.conditions.specs.Conditions.{undo_at, found_or12, Contents, set_up_check, cipher_check, load_check}
use Rattle.conditions.proofs.Conditions.{head_accepted}
use Rattle.engine.specs.Calls.{Engine, engine_of, engine_at, head_ready, set_up, set_up_call, cipher, cipher_call, move, move_call, write_call, recover, recover_call, load, load_call, spent}
use Rattle.engine.proofs.Calls.{write_done}
use Rattle.theorems.specs.Account.{Four, IsFour, at_position, Checkpoint, tables_of, engine_of_four, checkpoint_of}
use Rattle.laws.proofs.Results.{no_refusal, accepted_one, after_line}
use Rattle.conditions.proofs.Shows.{accepted_only, word_shows, word_accepted}
use Rattle.theorems.proofs.Conditions.{load_passed, move_accepted, recover_finds}
use Rattle.theorems.proofs.Checkpoints.{loaded_of, load_checkpoint}
use Rattle.theorems.proofs.Twice.{ciphered_twice}
use Rattle.theorems.proofs.HeadMark.{head_mark}
use Rattle.theorems.proofs.GeneratedCalls.{moved_four}
use Rattle.theorems.proofs.Tables.{moved_area, four_sized, four_true, four_moved, undo_finds}
use Rattle.lab.specs.Tasks.{cipher_of, load_fresh, load_and_move, open_checkpoint, set_up_at, then_write, write_at, rewrite_at, recover_from}
use Rattle.lab.specs.FromCheckpoint.{cipher_after, streamed, engine_streamed, Spends, checkpoint_put, FromCheckpoint}
use Rattle.lab.proofs.Advance.{load_not_0}

-- ── load ──

-- what an accepted load leaves
engine_in : Contents → Engine
engine_in l = engine_at (code_of l.cipher) l.cipher l.position l.position l.area

loaded_accepted : (string area : List ℕ) (l : Contents) → load_check string (length area) ≡ accepted l
    → load_fresh string area ≡ record { refusal = 0; value = engine_in l }
unfolding load_fresh load_call load engine_in
loaded_accepted string area l e = rw e

loaded_refused : (string area : List ℕ) (n : ℕ) → load_check string (length area) ≡ refused n
    → load_fresh string area ≡ record { refusal = n; value = record { head = fresh_head; area = area } }
unfolding load_fresh load_call load
loaded_refused string area n e = rw e

-- an accepted load has filled an area of the cipher's size, at a position within the limit
load_leaves : (string : List ℕ) (size : ℕ) (l : Contents) → load_check string size ≡ accepted l
    → (length l.area ≡ area_length l.cipher) × (l.position ≤ limit)
load_leaves string size l e =
    let (c, p, rest, passed, last) = load_passed string size accepted_only e in
    after_line (found_or12 (undo_at c (words rest) p)) _ last (λ _. no_refusal) λ pair e₁ r₁.
    subst
    (λ (x : Contents). (length x.area ≡ area_length x.cipher) × (x.position ≤ limit))
    (accepted_one refl r₁)
    (length_words (area_length c) rest passed.rest_long, passed.within_limit)

-- ── the move back ──

moved_back : (c : Cipher) (p mark : ℕ) (s : List ℕ) → length s ≡ area_length c → p ≤ limit
    → move_call (head_at (code_of c) p (word_at c s p) mark) s (neg_ℤ (pos p))
    ≡ record { refusal = 0; value = engine_at (code_of c) c 0 mark (moved c s p 0) }
unfolding move_call move
moved_back c p mark s z l =
    rw (move_accepted _ c p (neg_ℤ (pos p)) 0 (word_accepted c p (word_at c s p) s z l refl) (+ℤ_invr (pos p)) (omega arith))

opened_accepted : (string area : List ℕ) (l : Contents) → load_check string (length area) ≡ accepted l
    → open_checkpoint string area
    ≡ record { refusal = 0; value = engine_at (code_of l.cipher) l.cipher 0 l.position (moved l.cipher l.area l.position 0) }
unfolding open_checkpoint engine_in
opened_accepted string area l e =
    let h = load_leaves string (length area) l e in
    rw (loaded_accepted string area l e) (moved_back l.cipher l.position l.position l.area h.0 h.1)

not_0 : (string : List ℕ) (size n : ℕ) → load_check string size ≡ refused n → n ≡ 0 → ⊥
not_0 string size n e z = load_not_0 string size (e ∙ ap refused z)

opened_refused : (string area : List ℕ) (n : ℕ) → load_check string (length area) ≡ refused n
    → open_checkpoint string area ≡ record { refusal = n; value = record { head = fresh_head; area = area } }
unfolding open_checkpoint
opened_refused string area n e = rw (loaded_refused string area n e, ne_eqb n 0 (not_0 string (length area) n e))

by_load : (string area : List ℕ) (x : Result Contents) → load_check string (length area) ≡ x
    → (open_checkpoint string area).refusal ≡ (load_call fresh_head string area).refusal
unfolding load_call load
by_load string area (refused n) e = ap (λ (l : Outcome Engine). l.refusal) (opened_refused string area n e) ∙ rw e
by_load string area (accepted l) e = ap (λ (l : Outcome Engine). l.refusal) (opened_accepted string area l e) ∙ rw e

-- ── the checkpoint of a four ──

of_code : (c : Cipher) (rest : List ℕ) → cipher_of (code_of c ∷ rest) ≡ c
unfolding cipher_of
of_code Hc128 rest = refl
of_code Hc256 rest = refl

cipher_is_lem : (string : List ℕ) (f : Four) → Checkpoint string f → cipher_of string ≡ f.cipher
unfolding checkpoint_of layout
cipher_is_lem string f h = ap cipher_of h.string_is ∙ of_code f.cipher _

-- the tables at position 0 are those of set-up
at_0 : (c : Cipher) (k v : List ℕ) → tables_of (record { cipher = c; key = k; iv = v; position = 0 }) ≡ SetUp.set_up c k v
unfolding tables_of forward
at_0 c k v = refl

opens : (string area : List ℕ) (f : Four) → Checkpoint string f → length area ≡ area_length f.cipher
    → open_checkpoint string area
    ≡ record { refusal = 0; value = engine_at (code_of f.cipher) f.cipher 0 f.position (SetUp.set_up f.cipher f.key f.iv) }
opens string area f h z =
    opened_accepted string area (loaded_of f) (load_checkpoint string (length area) f h z)
    ∙ ap (λ (s : List ℕ). record { refusal = 0; value = engine_at (code_of f.cipher) f.cipher 0 f.position s })
    (four_moved f 0 h.is_four ∙ at_0 f.cipher f.key f.iv)

set_up_is : (c : Cipher) (k v area : List ℕ) → Pair c k v → length area ≡ area_length c
    → set_up_call fresh_head (code_of c) k v area ≡ record { refusal = 0; value = engine_at (code_of c) c 0 0 (SetUp.set_up c k v) }
unfolding set_up_call set_up set_up_check
set_up_is c k v area pair z =
    rw (code_of_lem c, eq-eqb (length k) (key_length c) pair.key_long, eq-eqb (length v) (iv_length c) pair.iv_long, eq-eqb (length area) (area_length c) z)

as_set_up : (string area : List ℕ) (f : Four) → Checkpoint string f → length area ≡ area_length f.cipher
    → let made = set_up_call fresh_head (code_of f.cipher) f.key f.iv area in
    open_checkpoint string area
    ≡ record { refusal = made.refusal; value = engine_of (with_mark made.value.head f.position) made.value.area }
as_set_up string area f h z = opens string area f h z ∙ rw (set_up_is f.cipher f.key f.iv area h.is_four.pair z)

-- ── what is spent ──

at_a_position : (c : Cipher) (position word mark : ℕ) → position ≤ limit → Spends (head_at (code_of c) position word mark) mark
unfolding spent
at_a_position c position word mark l = rw (head_accepted (code_of c) position c (code_of_lem c) l)

spent_loaded : (string area : List ℕ) (f : Four) → Checkpoint string f → length area ≡ area_length f.cipher
    → Spends (load_call fresh_head string area).value.engine.head f.position
unfolding load_call load
spent_loaded string area f h z =
    rw (load_checkpoint string (length area) f h z) (at_a_position f.cipher f.position _ f.position h.is_four.within)

-- the mark after a cipher call from position 0
mark_from_0 : (p n : ℕ) → mark_after p n n ≡ max p n
unfolding mark_after
mark_from_0 p zero = sym (max-zero p)
mark_from_0 p (suc n) = refl

-- ── deciphering ──

-- a cipher call on the bytes that one from the same head and tables left gives them back
twice : (h : Head) (area bytes : List ℕ) (x : Result Cipher) → cipher_check (head_ready h area) h.position (length bytes) ≡ x
    → (cipher_call h area (cipher_call h area bytes).value.bytes).value.bytes ≡ bytes
unfolding cipher_call cipher
twice h area bytes (refused n) e = rw (e, e)
twice h area bytes (accepted c) e =
    rw (e, length_ciphered c area h.position bytes, e) (ciphered_twice c area h.position bytes)

deciphers : (string area log : List ℕ) (f : Four) → Checkpoint string f → length area ≡ area_length f.cipher
    → let enciphered = (cipher_after (set_up_call fresh_head (code_of f.cipher) f.key f.iv area) log).value.bytes in
    (cipher_after (open_checkpoint string area) enciphered).value.bytes ≡ log
deciphers string area log f h z =
    let e = (set_up_call fresh_head (code_of f.cipher) f.key f.iv area).value in
    let enciphered = (cipher_call e.head e.area log).value.bytes in
    rw (as_set_up string area f h z)
    (sym (head_mark.cipher_as_given e.head f.position e.area enciphered).2 ∙ twice e.head e.area log _ refl)

-- ── in parts ──

nothing : (c : Cipher) (s : List ℕ) (p : ℕ) → [] ≡ ciphered c s p []
unfolding ciphered
nothing c s p = refl

ciphered_parts : (c : Cipher) (s : List ℕ) (p : ℕ) (a b : List ℕ)
    → ciphered c s p (a ++ b) ≡ ciphered c s p a ++ ciphered c (tables_after c s p (length a)) (p + length a) b
unfolding ciphered
ciphered_parts c s p [] b = rw (forward_none (tables_next c) s p, add-zero p)
ciphered_parts c s p (x ∷ a) b =
    rw (forward_first (tables_next c) s p (length a), add-suc p (length a), ← suc-add p (length a))
    (ap (λ (l : List ℕ). (x ⊕ key_byte c (tables_next c s p) p) ∷ l) (ciphered_parts c (tables_next c s p) (suc p) a b))

cipher_call_is : (c : Cipher) (p mark : ℕ) (s bytes : List ℕ) → length s ≡ area_length c → p + length bytes ≤ limit
    → cipher_call (head_at (code_of c) p (word_at c s p) mark) s bytes
    ≡ record {
      refusal = 0;
      value = record {
        engine = engine_at (code_of c) c (p + length bytes) (mark_after mark (p + length bytes) (length bytes)) (moved c s p (p + length bytes));
        bytes = ciphered c s p bytes;
      };
    }
unfolding cipher_call cipher cipher_check
cipher_call_is c p mark s bytes z l =
    rw (word_accepted c p (word_at c s p) s z (omega arith) refl, le-leb (p + length bytes) limit l)

streamed_is : (c : Cipher) (p mark : ℕ) (s : List ℕ) (parts : List (List ℕ)) → Area c s → p + length (flatten parts) ≤ limit
    → streamed (engine_at (code_of c) c p mark s) parts ≡ ciphered c s p (flatten parts)
unfolding streamed flatten
streamed_is c p mark s [] area l = nothing c s p
streamed_is c p mark s (part ∷ parts) area l =
    let n = length part in
    let sum : p + (n + length (flatten parts)) ≤ limit = rw (length-append part (flatten parts)) at l in
    let rest = streamed_is c (p + n) (mark_after mark (p + n) n) (moved c s p (p + n)) parts (moved_area c s area p (p + n)) (omega arith) in
    rw (cipher_call_is c p mark s part area.sized (omega arith), rest, moved_on c s p n, ciphered_parts c s p part (flatten parts))

in_parts : (string area log : List ℕ) (parts : List (List ℕ)) (f : Four) → Checkpoint string f → length area ≡ area_length f.cipher
    → length log ≤ limit
    → flatten parts ≡ (cipher_after (set_up_call fresh_head (code_of f.cipher) f.key f.iv area) log).value.bytes
    → streamed (open_checkpoint string area).value parts ≡ log
in_parts string area log parts f h z l e =
    let c = f.cipher in
    let s = SetUp.set_up c f.key f.iv in
    let ready = set_up_area c f.key f.iv h.is_four.pair in
    let enciphered : flatten parts ≡ ciphered c s 0 log =
    e ∙ rw (set_up_is c f.key f.iv area h.is_four.pair z, cipher_call_is c 0 0 s log ready.sized (omega arith)) in
    let long : length (flatten parts) ≡ length log = ap length enciphered ∙ length_ciphered c s 0 log in
    rw (opens string area f h z, streamed_is c 0 f.position s parts ready (omega arith), enciphered) (ciphered_twice c s 0 log)

-- the mark after a part and the parts after it
larger_end : (mark x y : ℕ) → x ≤ y → max (max mark x) y ≡ max mark y
larger_end mark x y l =
    ⊎_elim (λ m. max-eq_right (max-le (omega arith) l) ∙ sym (max-eq_right (omega arith))) (λ m. ap (λ (n : ℕ). max n y) (max-eq_left (omega arith)))
    (below_or_not mark y)

mark_of_parts : (mark p a b : ℕ) → mark_after (mark_after mark (p + a) a) (p + a + b) b ≡ mark_after mark (p + (a + b)) (a + b)
unfolding mark_after
mark_of_parts mark p a zero = rw (add-zero a)
mark_of_parts mark p zero (suc b) = rw (add-zero p, zero-add (suc b))
mark_of_parts mark p (suc a) (suc b) =
    larger_end mark (p + suc a) (p + suc a + suc b) (omega arith) ∙ rw (add_assoc p (suc a) (suc b), suc-add a (suc b))

parts_end : (c : Cipher) (p mark a b : ℕ) (t : List ℕ)
    → engine_at (code_of c) c (p + a + b) (mark_after (mark_after mark (p + a) a) (p + a + b) b) t
    ≡ engine_at (code_of c) c (p + (a + b)) (mark_after mark (p + (a + b)) (a + b)) t
parts_end c p mark a b t = rw (mark_of_parts mark p a b, add_assoc p a b)

engine_streamed_lem : (c : Cipher) (p mark : ℕ) (s : List ℕ) (parts : List (List ℕ)) → Area c s → p + length (flatten parts) ≤ limit
    → (t : List ℕ)
    × (engine_streamed (engine_at (code_of c) c p mark s) parts
    ≡ engine_at (code_of c) c (p + length (flatten parts)) (mark_after mark (p + length (flatten parts)) (length (flatten parts))) t)
unfolding engine_streamed flatten mark_after
engine_streamed_lem c p mark s [] area l = (s, rw (add-zero p))
engine_streamed_lem c p mark s (part ∷ parts) area l =
    let n = length part in
    let rest = length (flatten parts) in
    let sum : p + (n + rest) ≤ limit = rw (length-append part (flatten parts)) at l in
    let (t, e) = engine_streamed_lem c (p + n) (mark_after mark (p + n) n) (moved c s p (p + n)) parts (moved_area c s area p (p + n)) (omega arith) in (
      t,
      subst
          (λ (m : ℕ). engine_streamed (engine_at (code_of c) c p mark s) (part ∷ parts) ≡ engine_at (code_of c) c (p + m) (mark_after mark (p + m) m) t)
          (sym (length-append part (flatten parts)))
          (rw (cipher_call_is c p mark s part area.sized (omega arith)) (e ∙ parts_end c p mark n rest t)),
    )

spent_opened : (string area : List ℕ) (parts : List (List ℕ)) (f : Four) → Checkpoint string f → length area ≡ area_length f.cipher
    → length (flatten parts) ≤ limit
    → Spends (engine_streamed (open_checkpoint string area).value parts).head (max f.position (length (flatten parts)))
unfolding last_output
spent_opened string area parts f h z l =
    let c = f.cipher in
    let s = SetUp.set_up c f.key f.iv in
    let n = length (flatten parts) in
    let (t, e) = engine_streamed_lem c 0 f.position s parts (set_up_area c f.key f.iv h.is_four.pair) (omega arith) in
    rw (opens string area f h z, e, zero-add n, mark_from_0 f.position n) (at_a_position c n _ _ l)

-- ── recovering ──

undo_four : (f : Four) → IsFour f → undo_at f.cipher (tables_of f) f.position ≡ found f.key f.iv
unfolding tables_of
undo_four f h = undo_finds f.cipher f.key f.iv f.position h.pair

recovers : (string area key iv : List ℕ) (f : Four) → Checkpoint string f → length area ≡ area_length f.cipher
    → length key ≡ key_length f.cipher → length iv ≡ iv_length f.cipher
    → recover_from string area key iv
    ≡ record {
      refusal = 0;
      value = record {
        engine = engine_of_four f f.position;
        key = f.key;
        iv = f.iv;
      };
    }
unfolding recover_from recover_call recover engine_in
recovers string area key iv f h z kn vn =
    let c = f.cipher in
    let finds =
    recover_finds (code_of c) f.position _ (tables_of f) (length key) (length iv) c
    (word_shows (code_of c) f.position _ (tables_of f) c (four_true f (tables_of f) _ h.is_four refl refl))
    kn
    vn in
    rw (loaded_accepted string area (loaded_of f) (load_checkpoint string (length area) f h z), finds, undo_four f h.is_four)

-- ── writing ──

write_four : (f : Four) (mark : ℕ) (lent : List ℕ) → IsFour f → length_of f.cipher f.position ≤ length lent
    → write_call (engine_of_four f mark).head (tables_of f) lent
    ≡ checkpoint_put f mark lent
unfolding checkpoint_of
write_four f mark lent h l =
    let sized = four_sized f (tables_of f) h refl in
    let n = layout_length f.cipher f.position (tables_of f) sized in
    sym (write_done _ (tables_of f) lent f.cipher (four_true f (tables_of f) _ h refl refl) _ _ n (omega arith) refl)

then_write_lem : (f : Four) (mark : ℕ) (lent : List ℕ) → IsFour f → length_of f.cipher f.position ≤ length lent
    → then_write (record { refusal = 0; value = engine_of_four f mark }) lent
    ≡ checkpoint_put f mark lent
then_write_lem f mark lent h l = rw (write_four f mark lent h l)

writes : (area lent : List ℕ) (f : Four) → IsFour f → length area ≡ area_length f.cipher → length_of f.cipher f.position ≤ length lent
    → write_at (code_of f.cipher) f.key f.iv area f.position lent ≡ checkpoint_put f 0 lent
unfolding write_at set_up_at
writes area lent f h z l =
    let c = f.cipher in
    let start = moved_four (at_position f 0) 0 f.position (record { pair = h.pair; within = omega arith }) h.within in
    rw (set_up_is c f.key f.iv area h.pair z, ← at_0 c f.key f.iv, start) (then_write_lem f 0 lent h l)

rewrites : (string area lent : List ℕ) (f : Four) (position : ℕ) → Checkpoint string f → length area ≡ area_length f.cipher
    → position ≤ limit → length_of f.cipher position ≤ length lent
    → rewrite_at string area position lent ≡ checkpoint_put (at_position f position) f.position lent
unfolding rewrite_at load_and_move engine_in
rewrites string area lent f position h z w l =
    rw (loaded_accepted string area (loaded_of f) (load_checkpoint string (length area) f h z), moved_four f f.position position h.is_four w)
    (then_write_lem (at_position f position) f.position lent (record { pair = h.is_four.pair; within = w }) l)

pub from_checkpoint : FromCheckpoint
unfolding last_output
from_checkpoint = record {
  refused_by_load = λ string area. by_load string area (load_check string (length area)) refl;
  cipher_is_lem = cipher_is_lem;
  opens = opens;
  as_set_up = as_set_up;
  spent_loaded = spent_loaded;
  spent_opened = spent_opened;
  deciphers = deciphers;
  in_parts = in_parts;
  recovers = recovers;
  writes = writes;
  rewrites = rewrites;
}
