-- Engine and account agree after every list of calls, the head's mark is the farthest byte, and the area's size never changes. Assumes nothing.
use mathlib.Core.Path.{◌≡◌, refl, sym, ap, ◌∙◌, subst, subst₂}
use mathlib.Core.List.{List, [], ◌∷◌}
use Prim.Native.Nat.{ℕ, zero, suc, ◌+◌, ◌≤◌}
use native.Mathlib.Nat.{zero-max, max-le}
use native.Mathlib.Omega.{arith}
use lib.ListN.{length}
use Rattle.laws.proofs.Iterate.{forward_none}
use Rattle.word.specs.Bytes.{AllBytes}
use Rattle.cipher.specs.declared.Cipher.{Cipher}
use Rattle.cipher.specs.Numbers.{by_code, code_of, area_length}
use Rattle.cipher.proofs.Codes.{same_code}
use Rattle.tables.specs.Step.{step}
use Rattle.keys.specs.Key.{Pair}
use Rattle.steps.specs.Steps.{moved, word_at}
use Rattle.setup.specs.SetUp as SetUp
use Rattle.engine.specs.declared.Head.{Head}
use Rattle.volume.specs.declared.Entry.{Entry}
use Rattle.volume.specs.Calls.{entries_in}
use Rattle.laws.specs.Result.{Result, refused, accepted, outcome, ◌>>=◌, ◌>>◌}
use Rattle.conditions.specs.Limit.{limit}
use Rattle.engine.specs.Head.{head_at, mark_after}
use Rattle.conditions.specs.Conditions.{set_up_check, head_check, cipher_check, move_check, recover_check, Contents, load_check}
use Rattle.engine.specs.Calls.{Engine, engine_of, engine_at, head_ready, Ciphered, Written, Recovered, Loaded, Counted, set_up, set_up_call, cipher, cipher_call, encipher_volume, encipher_volume_call, move, move_call, write, write_call, recover, recover_call, load, load_call, spent, spent_call}
use Rattle.conditions.proofs.Conditions.{ready_unknown, word_not_ready}
use Rattle.theorems.specs.Account.{Call, call_set_up, call_cipher, call_encipher_volume, call_move, call_write, call_recover, call_load, call_spent, call_test_load, Given, AllGiven, called, run, Four, IsFour, Account, empty, holds, account_code, account_position, account_ready, at_position, at, unless_refused, at_start, feed_generated, feed, account, engine_after, account_after, tables_of}
use Rattle.test_load.specs.Words.{generated_calls}
use Rattle.test_load.specs.TestLoad.{run_calls, seed_and_count, test_load_call}
use Rattle.theorems.specs.Farthest.{with_end, reached_by_generated, reached_by, reached_since, largest}
use Rattle.theorems.specs.TestLoad.{end_of_calls}
use Rattle.laws.proofs.Results.{no_refusal, outcome_same, accepted_one, after_first, after_line}
use Rattle.theorems.proofs.Tables.{four_sized, four_ready, four_true, four_moved}
use Rattle.conditions.proofs.Shows.{ready_shows}
use Rattle.theorems.proofs.Conditions.{no_code_0, set_up_shows, cipher_shows, move_shows}
use Rattle.theorems.proofs.Checkpoints.{four_of, load_shows}
use Rattle.theorems.proofs.Writes.{write_shows}
use Rattle.theorems.proofs.GeneratedCalls.{seed_shows, load_lines, set_up_four, stay, end_within, reach_within, moved_is, runs_to, fed_to, reached_to}

-- the head of an account with a mark
abbrev pub account_word : Account → ℕ
account_word empty = 0
account_word (holds f) = word_at f.cipher (tables_of f) f.position

abbrev pub head_of : Account → (mark : ℕ) → Head
head_of a mark = head_at (account_code a) (account_position a) (account_word a) mark

-- an account's tables; while it is empty the area is what it was at first
abbrev pub TablesAre : List ℕ → Account → List ℕ → Type 0
TablesAre start empty s = s ≡ start
TablesAre start (holds f) s = IsFour f × (s ≡ tables_of f)

-- what is reached is within the limit, and nothing is while the account is empty
abbrev pub ReachedIs : Account → List ℕ → Type 0
ReachedIs empty reached = reached ≡ []
ReachedIs (holds f) reached = largest reached ≤ limit

pub record Agrees (start : List ℕ) (size : ℕ) (a : Account) (reached : List ℕ) (e : Engine) : Type 0 where
  pub head_is : e.head ≡ head_of a (largest reached)
  pub tables_are : TablesAre start a e.area
  pub reached_is : ReachedIs a reached
  pub sized : length e.area ≡ size

-- what holds before a call, and after it where it is accepted, holds after it
module _ {A B : Type 0} (P : Account → List ℕ → Engine → Type 0) (a : Account) (f : A → Account) (reached : List ℕ) (g : A → List ℕ) (old : B) (new : A → B) (engine : B → Engine) where
  by_same : (r : Result A) → P a reached (engine old) → ((x : A) → r ≡ accepted x → P (f x) (g x) (engine (new x)))
      → P (unless_refused a r f) (unless_refused reached r g) (engine (outcome old (r >>= λ x. accepted (new x))).value)
  by_same (refused n) before after = before
  by_same (accepted x) before after = after x refl

  -- r is the outcome of the account's conditions, q that of the engine's
  by_answer : (r q : Result A) → r ≡ q → P a reached (engine old) → ((x : A) → r ≡ accepted x → P (f x) (g x) (engine (new x)))
      → P (unless_refused a r f) (unless_refused reached r g) (engine (outcome old (q >>= λ x. accepted (new x))).value)
  by_answer r q e before after =
      subst (λ (x : Result A). P (unless_refused a r f) (unless_refused reached r g) (engine (outcome old (x >>= λ y. accepted (new y))).value)) e
      (by_same r before after)

-- ── write, recover and spent leave the engine ──

write_engine : (h : Head) (area lent : List ℕ) → (write_call h area lent).value.engine ≡ engine_of h area
unfolding write_call
write_engine h area lent =
    outcome_same (λ (w : Written). w.engine) _ (write h area lent) λ w e. (write_shows h area lent w e).1.engine_is

recover_engine : (h : Head) (area key iv : List ℕ) → (recover_call h area key iv).value.engine ≡ engine_of h area
unfolding recover_call recover
recover_engine h area key iv =
    outcome_same (λ (r : Recovered). r.engine) _ (recover h area key iv) λ r e.
    after_line (recover_check h.code h.position h.word area (length key) (length iv)) _ e (λ _. no_refusal) λ pair e₁ r₁.
    ap (λ (x : Recovered). x.engine) (sym (accepted_one refl r₁))

spent_head : (h : Head) → (spent_call h).value.head ≡ h
unfolding spent_call spent
spent_head h =
    outcome_same (λ (n : Counted). n.head) _ (spent h) λ n e.
    ap (λ (x : Counted). x.head) (sym (accepted_one refl (after_first (head_check h.code h.position) _ e)))

-- ── one call, from the account's head ──

abbrev engine_in : Account → (reached area : List ℕ) → Engine
engine_in a reached s = record { head = head_of a (largest reached); area = s }

-- `start` is the area that the list begins with
module _ (start : List ℕ) where
  same : (a : Account) (reached s : List ℕ) → TablesAre start a s → ReachedIs a reached → Agrees start (length s) a reached (engine_in a reached s)
  same a reached s t m = record { head_is = refl; tables_are = t; reached_is = m; sized = refl }

  -- an area that has become the tables of a four, with a mark that has become the farthest byte
  tables_agree : (f : Four) (code : ℕ) (c : Cipher) (s : List ℕ) (size : ℕ) (reached : List ℕ) (mark : ℕ) → IsFour f → code ≡ code_of f.cipher
      → c ≡ f.cipher → s ≡ tables_of f → size ≡ area_length f.cipher → mark ≡ largest reached → mark ≤ limit
      → Agrees start size (holds f) reached (engine_at code c f.position mark s)
  tables_agree f code c s size reached mark h i d e z m l = record {
    head_is = rw (i, d, e, m);
    tables_are = (h, e);
    reached_is = rw m at l;
    sized = four_sized f s h e ∙ sym z;
  }

  -- the head's word is true, so that 13 is not given and the conditions that engine and account begin with are the same
  same_begun : (a : Account) (mark : ℕ) (s : List ℕ) → TablesAre start a s → head_ready (head_of a mark) s ≡ account_ready (length s) a
  unfolding by_code
  same_begun empty mark s t =
      let e = ready_unknown 0 0 (length s) refl in
      word_not_ready 0 0 0 s 1 e ∙ sym e
  same_begun (holds f) mark s t =
      let e = four_ready f s t.0 t.1 in
      four_true f s _ t.0 t.1 refl ∙ sym e

  set_up_agrees : (code : ℕ) (key iv s : List ℕ) (c : Cipher) → AllBytes key → AllBytes iv
      → set_up_check code (length key) (length iv) (length s) ≡ accepted c
      → Agrees start (length s)
      (holds (record { cipher = c; key = key; iv = iv; position = 0 }))
      (0 ∷ [])
      (engine_at code c 0 0 (SetUp.set_up c key iv))
  unfolding tables_of largest
  set_up_agrees code key iv s c kb vb e =
      let r = set_up_shows code (length key) (length iv) (length s) c e in
      let pair : Pair c key iv = record { key_long = r.key_long; iv_long = r.iv_long; key_bytes = kb; iv_bytes = vb } in
      tables_agree (record { cipher = c; key = key; iv = iv; position = 0 }) code c _ (length s) (0 ∷ []) 0
      (record { pair = pair; within = omega arith })
      r.code_is
      refl
      (sym (forward_none (step c) _ 0))
      r.sized
      refl
      (omega arith)

  -- an area that cipher or move brings to position q, with the mark that it leaves
  moved_agrees : (a : Account) (s : List ℕ) (c : Cipher) (q : ℕ) (before after : List ℕ) (mark : ℕ) → TablesAre start a s → ReachedIs a before
      → account_ready (length s) a ≡ accepted c → q ≤ limit → mark ≡ largest after → (largest before ≤ limit → mark ≤ limit)
      → Agrees start (length s) (at a q) after (engine_at (account_code a) c q mark (moved c s (account_position a) q))
  moved_agrees empty s c q before after mark t b e l m w = absurd (no_code_0 c (ready_shows 0 0 (length s) c e).code_is)
  moved_agrees (holds f) s c q before after mark t b e l m w =
      let r = ready_shows (code_of f.cipher) f.position (length s) c e in
      let d : c ≡ f.cipher = sym (same_code f.cipher c r.code_is) in
      let h : IsFour f = t.0 in
      tables_agree (record { cipher = f.cipher; key = f.key; iv = f.iv; position = q }) (code_of f.cipher) c _ (length s) after mark
      (record { pair = h.pair; within = l })
      refl
      d
      (rw (d, t.1) (four_moved f q h))
      (r.sized ∙ ap area_length d)
      m
      (w b)

  -- the mark that a cipher call leaves
  mark_reached : (reached : List ℕ) (n end : ℕ) → mark_after (largest reached) end n ≡ largest (with_end n end reached)
  unfolding mark_after largest
  mark_reached reached zero end = refl
  mark_reached reached (suc n) end = refl

  mark_within : (mark end n : ℕ) → end ≤ limit → mark ≤ limit → mark_after mark end n ≤ limit
  unfolding mark_after
  mark_within mark end zero l m = m
  mark_within mark end (suc n) l m = max-le m l

  load_agrees : (string s : List ℕ) (l : Contents) → AllBytes string → load_check string (length s) ≡ accepted l
      → Agrees start (length s) (holds (four_of l)) (l.position ∷ []) (engine_at (code_of l.cipher) l.cipher l.position l.position l.area)
  unfolding largest
  load_agrees string s l all e =
      let r = load_shows string (length s) l all e in
      tables_agree (four_of l) (code_of l.cipher) l.cipher l.area (length s) (l.position ∷ []) l.position r.checkpoint.is_four refl refl
      r.area_is
      r.sized
      (sym (zero-max l.position))
      r.checkpoint.is_four.within

  -- a cipher call after another condition: r is its result
  cipher_agrees : (r : Result (List Entry)) (bytes : List ℕ) (a : Account) (reached s : List ℕ) → TablesAre start a s → ReachedIs a reached
      → let check = r >> cipher_check (account_ready (length s) a) (account_position a) (length bytes) in
      let end = account_position a + length bytes in
      Agrees start (length s) (unless_refused a check (λ c. at a end)) (unless_refused reached check (λ c. with_end (length bytes) end reached))
      (outcome (record { engine = engine_in a reached s; bytes = bytes }) (r >> cipher (head_of a (largest reached)) s bytes)).value.engine
  unfolding cipher
  cipher_agrees (refused n) bytes a reached s t m = same a reached s t m
  cipher_agrees (accepted entries) bytes a reached s t m =
      let begun = account_ready (length s) a in
      let position = account_position a in
      by_answer (Agrees start (length s)) a _ reached _ _ _ (λ (r : Ciphered). r.engine) (cipher_check begun position (length bytes)) _
      (ap (λ (b : Result Cipher). cipher_check b position (length bytes)) (sym (same_begun a (largest reached) s t))) (same a reached s t m) λ c e.
      let r = cipher_shows begun position (length bytes) c e in
      let end = position + length bytes in
      moved_agrees a s c end reached _ _ t m r.0 r.1 (mark_reached reached (length bytes) end) (mark_within (largest reached) end (length bytes) r.1)

  test_load_agrees : (seed count code : ℕ) (key iv s : List ℕ) (c : Cipher) → AllBytes key → AllBytes iv
      → (seed_and_count seed count >> set_up_check code (length key) (length iv) (length s)) ≡ accepted c
      → let calls = generated_calls seed count in
      Agrees start (length s) (feed_generated (length s) (holds (at_start c key iv)) calls)
      (reached_by_generated (length s) (holds (at_start c key iv)) (0 ∷ []) calls)
      (run_calls calls (engine_at code c 0 0 (SetUp.set_up c key iv)))
  unfolding largest
  test_load_agrees seed count code key iv s c kb vb e =
      let t = seed_shows seed count _ e in
      let r = set_up_shows code (length key) (length iv) (length s) c t.2 in
      let pair : Pair c key iv = record { key_long = r.key_long; iv_long = r.iv_long; key_bytes = kb; iv_bytes = vb } in
      let f = at_start c key iv in
      let h : IsFour f = record { pair = pair; within = omega arith } in
      let calls = generated_calls seed count in
      let stays = stay seed count t.1 in
      let q = end_of_calls 0 calls in
      let ran = ap (run_calls calls) (set_up_four code c key iv r.code_is) ∙ runs_to calls f 0 h stays in
      rw (fed_to (length s) calls f h r.sized stays, ran)
      (tables_agree (at_position f q) (code_of c) c (tables_of (at_position f q)) (length s) _ _ (moved_is f q h (end_within calls 0 (omega arith) stays))
      refl
      refl
      refl
      r.sized
      (sym (reached_to (length s) calls f (0 ∷ []) h r.sized stays))
      (max-le (omega arith) (reach_within calls 0 stays)))

  agree_at : (call : Call) (a : Account) (reached s : List ℕ) → Given call → TablesAre start a s → ReachedIs a reached
      → Agrees start (length s) (feed (length s) a call) (reached_by (length s) a reached call) (called (engine_in a reached s) call)
  unfolding feed reached_by called test_load_call set_up_call set_up cipher_call encipher_volume_call encipher_volume move_call move load_call load
  agree_at (call_set_up code key iv) a reached s g t m =
      by_answer (Agrees start (length s)) a _ reached _ _ _ (λ (e : Engine). e) (set_up_check code (length key) (length iv) (length s)) _ refl
      (same a reached s t m) λ c e. set_up_agrees code key iv s c g.0 g.1 e
  agree_at (call_cipher bytes) a reached s g t m = cipher_agrees (accepted []) bytes a reached s t m
  agree_at (call_encipher_volume volume) a reached s g t m = cipher_agrees (entries_in volume) volume a reached s t m
  agree_at (call_move distance) a reached s g t m =
      let begun = account_ready (length s) a in
      let position = account_position a in
      by_answer (λ (x : Account) (l : List ℕ) (e : Engine). Agrees start (length s) x reached e) a _ reached (λ _. reached) _ _ (λ (e : Engine). e)
      (move_check begun position distance) _
      (ap (λ (b : Result Cipher). move_check b position distance) (sym (same_begun a (largest reached) s t))) (same a reached s t m) λ q e.
      let r = move_shows begun position distance q e in
      moved_agrees a s q.cipher q.end reached reached _ t m r.begun_is r.end_within refl (λ l. l)
  agree_at (call_load string) a reached s g t m =
      by_answer (Agrees start (length s)) a _ reached _ _ _ (λ (o : Loaded). o.engine) (load_check string (length s)) _ refl (same a reached s t m) λ l e.
      load_agrees string s l g e
  agree_at (call_write lent) a reached s g t m = rw (write_engine (head_of a (largest reached)) s lent) (same a reached s t m)
  agree_at (call_recover key iv) a reached s g t m = rw (recover_engine (head_of a (largest reached)) s key iv) (same a reached s t m)
  agree_at (call_test_load seed count code key iv) a reached s g t m =
      subst
      (λ (x : Result Engine).
      Agrees start (length s) (feed (length s) a (call_test_load seed count code key iv)) (reached_by (length s) a reached (call_test_load seed count code key iv))
      (outcome (engine_in a reached s) x).value)
      (sym (load_lines seed count code key iv s))
      (by_answer (Agrees start (length s)) a _ reached _ _ _ (λ (e : Engine). e)
      (seed_and_count seed count >> set_up_check code (length key) (length iv) (length s)) _ refl
      (same a reached s t m) λ c e. test_load_agrees seed count code key iv s c g.0 g.1 e)
  agree_at call_spent a reached s g t m = rw (spent_head (head_of a (largest reached))) (same a reached s t m)

  agree_call : (call : Call) (size : ℕ) (a : Account) (reached : List ℕ) (e : Engine) → Given call → Agrees start size a reached e
      → Agrees start size (feed size a call) (reached_by size a reached call) (called e call)
  agree_call call size a reached e g h =
      subst₂
      (λ (n : ℕ) (x : Head). Agrees start n (feed n a call) (reached_by n a reached call) (called (record { head = x; area = e.area }) call))
      h.sized
      (sym h.head_is)
      (agree_at call a reached e.area g h.tables_are h.reached_is)

  agree_run : (calls : List Call) (size : ℕ) (a : Account) (reached : List ℕ) (e : Engine) → AllGiven calls → Agrees start size a reached e
      → Agrees start size (account size calls a) (reached_since size calls a reached) (run calls e)
  unfolding account reached_since run
  agree_run [] size a reached e g h = h
  agree_run (call ∷ calls) size a reached e g h =
      agree_run calls size (feed size a call) (reached_by size a reached call) (called e call) g.1 (agree_call call size a reached e g.0 h)

-- what is reached after a list
abbrev pub reached_after : List Call → List ℕ → List ℕ
reached_after calls area = reached_since (length area) calls empty []

pub agree : (calls : List Call) → AllGiven calls → (area : List ℕ)
    → Agrees area (length area) (account_after calls area) (reached_after calls area) (engine_after calls area)
unfolding largest
agree calls g area = agree_run area calls (length area) empty [] _ g (record { head_is = refl; tables_are = refl; reached_is = refl; sized = refl })

pub agree_four : (calls : List Call) → AllGiven calls → (area : List ℕ) (f : Four) → account_after calls area ≡ holds f
    → Agrees area (length area) (holds f) (reached_after calls area) (engine_after calls area)
agree_four calls g area f e = rw e at (agree calls g area)
