-- Demand 3 holds: after every list of calls a write gives the checkpoint of the account, and the loader accepts exactly the checkpoints of
-- fours. Assumes nothing.
use mathlib.Core.Path.{◌≡◌, refl, sym, ap, ◌∙◌, subst}
use mathlib.Core.List.{List, [], ◌∷◌, ◌++◌}
use mathlib.Core.Logic.{◌↔◌}
use Prim.Native.Nat.{ℕ, ◌≤◌}
use native.Mathlib.Omega.{arith}
use lib.IntN.{pos, +ℤ_idl}
use lib.ListN.{length, drop}
use Rattle.word.specs.Bytes.{AllBytes}
use Rattle.cipher.specs.Numbers.{by_code, code_of, area_length}
use Rattle.cipher.proofs.Codes.{code_of_lem, same_code}
use Rattle.laws.specs.Result.{Result, refused, accepted}
use Rattle.volume.specs.declared.Entry.{Entry}
use Rattle.volume.specs.Calls.{entries_in}
use Rattle.steps.specs.Steps.{word_at}
use Rattle.checkpoint.specs.Checkpoint.{layout, length_of, longest}
use Rattle.checkpoint.proofs.Checkpoint.{length_longest}
use Rattle.conditions.specs.Conditions.{Contents, load_check}
use Rattle.engine.specs.declared.Head.{Head}
use Rattle.engine.specs.Calls.{engine_of, engine_at, Written, Loaded, eight_words, encipher_volume, write, load}
use Rattle.conditions.proofs.Conditions.{set_up_accepted, ready_unknown, ready_accepted}
use Rattle.theorems.specs.Account.{Call, call_set_up, call_cipher, call_encipher_volume, call_move, call_write, call_recover, call_load, call_spent, call_test_load, AllGiven, answered, Four, IsFour, Account, empty, holds, unless_refused, feed, account, engine_after, account_after, checkpoint_of, Checkpoint}
use Rattle.theorems.specs.Farthest.{farthest_after}
use Rattle.theorems.specs.Demand3.{write_after, given, Names, Demand3}
use Rattle.laws.proofs.Results.{no_refusal, accepted_one, after_line}
use Rattle.theorems.proofs.Tables.{four_ready, four_true}
use Rattle.theorems.proofs.Conditions.{no_code_0, move_accepted}
use Rattle.theorems.proofs.Checkpoints.{four_of, loaded_of, load_checkpoint, load_shows, load_is, checkpoint_of_one}
use Rattle.theorems.proofs.Names.{name_of_one}
use Rattle.theorems.proofs.Writes.{WriteShows, write_shows, write_iff}
use Rattle.theorems.specs.HeadWord.{Compares}
use Rattle.theorems.proofs.Within.{first, after, volume_within, within_not}
use Rattle.theorems.proofs.Encipher.{volume_refused}
use Rattle.theorems.proofs.Demand1.{demand1}
use Rattle.theorems.proofs.Compares.{cipher_compares, encipher_compares, move_compares, write_compares, recover_compares, answers_13, not_one_of}
use Rattle.theorems.proofs.Agree.{head_of, TablesAre, agree, agree_four}

-- ── what is written ──

-- from the head of a four, whatever its mark
pub four_write_shows : (f : Four) (mark : ℕ) (area lent : List ℕ) (w : Written) → write (head_of (holds f) mark) area lent ≡ accepted w
    → WriteShows (head_of (holds f) mark) area lent w f.cipher
four_write_shows f mark area lent w e =
    let (c, s) = write_shows (head_of (holds f) mark) area lent w e in
    subst (WriteShows (head_of (holds f) mark) area lent w) (sym (same_code f.cipher c s.is_ready.code_is)) s

-- the account is a four whose checkpoint the write has given
abbrev pub GivesCheckpoint : Account → Written → Type 0
GivesCheckpoint a w = (f : Four) × (a ≡ holds f) × Checkpoint (given w) f

-- a write from an account's head and tables
write_gives : (start : List ℕ) (a : Account) (mark : ℕ) (area lent : List ℕ) (w : Written) → TablesAre start a area
    → write (head_of a mark) area lent ≡ accepted w → GivesCheckpoint a w
unfolding checkpoint_of
write_gives start empty mark area lent w t e =
    let (c, s) = write_shows (head_of empty mark) area lent w e in
    absurd (no_code_0 c s.is_ready.code_is)
write_gives start (holds f) mark area lent w t e =
    let s = four_write_shows f mark area lent w e in
    (f, refl, record { is_four = t.0; string_is = s.string ∙ ap (layout f.cipher f.position) t.1 })

pub written :
    (calls : List Call) → AllGiven calls → (area lent : List ℕ) (w : Written)
    → write_after calls area lent ≡ accepted w → GivesCheckpoint (account_after calls area) w
written calls g area lent w e =
    let h = agree calls g area in
    write_gives area (account_after calls area) _ (engine_after calls area).area lent w h.tables_are (rw h.head_is at e)

fits :
    (calls : List Call) → AllGiven calls → (area lent : List ℕ) (f : Four) (w : Written)
    → account_after calls area ≡ holds f → write_after calls area lent ≡ accepted w
    → (w.length ≡ length_of f.cipher f.position) × (w.length ≤ longest f.cipher) × (length (given w) ≡ w.length)
    × (w.lent ≡ given w ++ drop w.length lent)
fits calls g area lent f w q e =
    let h = agree_four calls g area f q in
    let s = four_write_shows f _ (engine_after calls area).area lent w (rw h.head_is at e) in
    let l = length_longest f.cipher f.position (omega (arith, h.tables_are.0.within)) in
    (s.length_is, omega (arith, s.length_is), s.as_long, s.later)

writable :
    (calls : List Call) → AllGiven calls → (area lent : List ℕ) (f : Four)
    → account_after calls area ≡ holds f
    → ((w : Written) × (write_after calls area lent ≡ accepted w)) ↔ (length_of f.cipher f.position ≤ length lent)
writable calls g area lent f e =
    let h = agree_four calls g area f e in
    let s = (engine_after calls area).area in
    rw h.head_is (write_iff (head_of (holds f) (farthest_after calls area)) s lent f.cipher (four_true f s _ h.tables_are.0 h.tables_are.1 refl))

-- from an account's head and tables no call answers 13: where the account is a four the word is true, and where it is empty 1 comes first
true_compares : {A : Type 0} (start : List ℕ) (a : Account) (mark : ℕ) (s : List ℕ) (result : Result A) → TablesAre start a s
    → Compares (head_of a mark) s result → result ≡ refused 13 → ⊥
unfolding by_code
true_compares start empty mark s result t c q =
    let z : ◌≡◌ {A = ℕ} 13 1 = cc (q, c.before_13 1 (ready_unknown 0 0 (length s) refl)) in omega arith
true_compares start (holds f) mark s result t c q =
    (c.gives_13 f.cipher (four_ready f s t.0 t.1)).0 q (ap (λ (x : List ℕ). word_at f.cipher x f.position) (sym t.1))

module _ (start : List ℕ) (a : Account) (mark : ℕ) (s : List ℕ) (t : TablesAre start a s) where
  abbrev h : Head
  h = head_of a mark

  -- reading a volume does not refuse with 13
  encipher_no_13 : (volume : List ℕ) (r : Result (List Entry)) → entries_in volume ≡ r → encipher_volume h s volume ≡ refused 13 → ⊥
  encipher_no_13 volume (refused n) e q =
      let z : n ≡ 13 = cc (volume_refused h s volume n e, q) in
      within_not 13 (16 ∷ 14 ∷ 15 ∷ []) (entries_in volume) (volume_within first (after first) (after (after first)) volume) refl (rw z at e)
  encipher_no_13 volume (accepted entries) e q = true_compares start a mark s _ t (encipher_compares h s volume entries e) q

  answers_no_13 : (call : Call) → answered (engine_of h s) call ≡ 13 → ⊥
  unfolding answered
  answers_no_13 (call_set_up code key iv) q = not_one_of (demand1.of_set_up h code key iv s) q refl
  answers_no_13 (call_cipher bytes) q =
      true_compares start a mark s _ t (cipher_compares h s bytes) (answers_13 (demand1.of_cipher h s bytes) q)
  answers_no_13 (call_encipher_volume volume) q = encipher_no_13 volume (entries_in volume) refl (answers_13 (demand1.of_encipher_volume h s volume) q)
  answers_no_13 (call_move distance) q =
      true_compares start a mark s _ t (move_compares h s distance) (answers_13 (demand1.of_move h s distance) q)
  answers_no_13 (call_write lent) q =
      true_compares start a mark s _ t (write_compares h s lent) (answers_13 (demand1.of_write h s lent) q)
  answers_no_13 (call_recover key iv) q =
      true_compares start a mark s _ t (recover_compares h s key iv) (answers_13 (demand1.of_recover h s key iv) q)
  answers_no_13 (call_load string) q = not_one_of (demand1.of_load h string s) q refl
  answers_no_13 call_spent q = not_one_of (demand1.of_spent h) q refl
  answers_no_13 (call_test_load seed count code key iv) q = not_one_of (demand1.of_test_load h seed count code key iv s) q refl

never_13 :
    (calls : List Call) → AllGiven calls → (area : List ℕ) (call : Call) → answered (engine_after calls area) call ≡ 13 → ⊥
never_13 calls g area call q =
    let h = agree calls g area in
    answers_no_13 area (account_after calls area) _ (engine_after calls area).area h.tables_are call
    (subst (λ (x : Head). answered (engine_of x (engine_after calls area).area) call ≡ 13) h.head_is q)

-- a set up, and then a move
reached :
    (f : Four) → IsFour f → (area : List ℕ) → length area ≡ area_length f.cipher
    → (calls : List Call) × AllGiven calls × (account_after calls area ≡ holds f)
unfolding account feed
reached f h area z =
    let c = f.cipher in
    let p = f.position in
    let k = h.pair in (
      call_set_up (code_of c) f.key f.iv ∷ call_move (pos p) ∷ [],
      ((k.key_bytes, k.iv_bytes), (tt, tt)),
      rw (
        set_up_accepted (code_of c) (length f.key) (length f.iv) (length area) c (code_of_lem c) k.key_long k.iv_long z,
        move_accepted _ c 0 (pos p) p (ready_accepted (code_of c) 0 (length area) c (code_of_lem c) z (omega arith)) (+ℤ_idl (pos p)) h.within,
      ),
    )

compared :
    (calls calls' : List Call) → AllGiven calls → AllGiven calls' → (area area' lent lent' : List ℕ) (w w' : Written)
    → write_after calls area lent ≡ accepted w
    → write_after calls' area' lent' ≡ accepted w'
    → (given w ≡ given w') ↔ (account_after calls area ≡ account_after calls' area')
compared calls calls' g g' area area' lent lent' w w' e e' =
    let (f, a, h) = written calls g area lent w e in
    let (f', a', h') = written calls' g' area' lent' w' e' in (
      (λ s. a ∙ ap holds (checkpoint_of_one (given w) f f' h (record { is_four = h'.is_four; string_is = s ∙ h'.string_is })) ∙ sym a'),
      (λ s. let same : f ≡ f' = cc in h.string_is ∙ ap checkpoint_of same ∙ sym h'.string_is),
    )

-- ── what is loaded ──

-- the answer of an accepted load
abbrev pub opened_of : Contents → Loaded
opened_of l = record {
  engine = engine_at (code_of l.cipher) l.cipher l.position l.position l.area;
  key = eight_words l.key;
  iv = eight_words l.iv;
}

module _ {C : Type 0} where
  pub after_load : (string area : List ℕ) (o : Loaded) → load string area ≡ accepted o
      → ((l : Contents) → load_check string (length area) ≡ accepted l → opened_of l ≡ o → C) → C
  unfolding load
  after_load string area o e k = after_line (load_check string (length area)) _ e (λ _. no_refusal) λ l e₁ r₁. k l e₁ (accepted_one refl r₁)

load_accepted : (string area : List ℕ) (f : Four) → Checkpoint string f → length area ≡ area_length f.cipher
    → load string area ≡ accepted (opened_of (loaded_of f))
unfolding load
load_accepted string area f h z = rw (load_checkpoint string (length area) f h z)

loaded :
    (string area : List ℕ) → AllBytes string
    → ((o : Loaded) × (load string area ≡ accepted o)) ↔ ((f : Four) × Checkpoint string f × (length area ≡ area_length f.cipher))
loaded string area all = (
  (λ t.
      after_load string area t.0 t.1 λ l e r.
      let s = load_shows string (length area) l all e in
      (four_of l, s.checkpoint, s.sized)),
  (λ t. (_, load_accepted string area t.0 t.1 t.2)),
)

named : (string area : List ℕ) (o : Loaded) (f : Four) → load string area ≡ accepted o → Checkpoint string f → Names o f
named string area o f e h =
    after_load string area o e λ l e₁ r₁.
    subst (λ (x : Loaded). Names x f) (sym (ap opened_of (load_is string (length area) l f e₁ h)) ∙ r₁)
    (record { code = refl; position = refl; key = refl; iv = refl })

feed_load :
    (size : ℕ) (a : Account) (string : List ℕ) (f : Four)
    → Checkpoint string f → size ≡ area_length f.cipher → feed size a (call_load string) ≡ holds f
unfolding feed
feed_load size a string f h z = rw (load_checkpoint string size f h z)

unless_refused_same : {A : Type 0} (a : Account) (r : Result A) (f : A → Account) → ((x : A) → r ≡ accepted x → f x ≡ a)
    → unless_refused a r f ≡ a
unless_refused_same a (refused n) f h = refl
unless_refused_same a (accepted x) f h = h x refl

feed_else :
    (size : ℕ) (a : Account) (string : List ℕ) → AllBytes string
    → ((f : Four) → Checkpoint string f → size ≡ area_length f.cipher → ⊥) → feed size a (call_load string) ≡ a
unfolding feed
feed_else size a string all no-four =
    unless_refused_same a (load_check string size) _ λ l e.
    let s = load_shows string size l all e in
    absurd (no-four (four_of l) s.checkpoint s.sized)

pub demand3 : Demand3
demand3 = record {
  written = written;
  fits = fits;
  writable = writable;
  never_13 = never_13;
  reached = reached;
  compared = compared;
  loaded = loaded;
  named = named;
  name_of_one = name_of_one;
  checkpoint_of_one = checkpoint_of_one;
  feed_load = feed_load;
  feed_else = feed_else;
}
