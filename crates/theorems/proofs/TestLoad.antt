-- The test load is document 02's: no generated call is refused, and engine, account and mark are those counted from the words alone. Assumes nothing.
use mathlib.Core.Path.{◌≡◌, refl, sym, ap, ap₂, ◌∙◌, subst}
use mathlib.Core.Bool.{false}
use mathlib.Core.List.{List, [], ◌∷◌, ◌++◌}
use mathlib.Core.Logic.{◌↔◌, inl, inr, ⊎_elim}
use Prim.Native.Nat.{ℕ, zero, suc, ◌+◌, ◌≤◌, ◌<◌}
use native.Mathlib.Nat.{zero-max}
use native.Mathlib.Omega.{arith}
use borrow.Author.Tests.{eq-eqb, ne_eqb, lt-leb}
use lib.ListN.{length, take}
use Rattle.laws.specs.Result.{Result, refused, accepted, Outcome, outcome, ◌>>=◌, ◌>>◌}
use Rattle.laws.proofs.Lists.{below_or_not}
use Rattle.laws.proofs.Results.{no_refusal, accepted_one, refused_iff, after_line, zero_or_not}
use Rattle.word.specs.Bytes.{AllBytes}
use Rattle.cipher.specs.declared.Cipher.{Cipher}
use Rattle.cipher.specs.Numbers.{code_of, area_length}
use Rattle.cipher.proofs.Codes.{code_of_lem, same_code}
use Rattle.keys.specs.Key.{Pair}
use Rattle.conditions.specs.Conditions.{set_up_check}
use Rattle.conditions.proofs.Conditions.{set_up_accepted}
use Rattle.engine.specs.Calls.{Engine, Written, engine_of, set_up, set_up_call, write, spent}
use Rattle.test_load.specs.Words.{next_word, GeneratedCall, move_to_byte, cipher_zeros, call_of, generated_calls}
use Rattle.test_load.specs.TestLoad.{run_calls, seed_and_count, test_load, test_load_call}
use Rattle.checkpoint.specs.Checkpoint.{length_of}
use Rattle.theorems.specs.Account.{Call, call_set_up, call_test_load, AllGiven, called, answered, run, Four, IsFour, Account, holds, at_start, unless_refused, feed_generated, feed, account, engine_after, account_after, tables_of, engine_of_four, checkpoint_of, Checkpoint}
use Rattle.theorems.specs.Farthest.{reached_by_generated, reached_by, reached_since, largest, farthest_after}
use Rattle.theorems.specs.Demand1.{AcceptedOrRefused}
use Rattle.theorems.specs.Demand3.{given}
use Rattle.theorems.specs.TestLoad.{end_of_calls, ends_of_ciphers, position_after, mark_after_load, four_after, as_calls, set_up_and_calls, EachAccepted, TestLoad}
use Rattle.theorems.proofs.Conditions.{set_up_shows}
use Rattle.theorems.proofs.NextWord.{word_fits, not_0}
use Rattle.theorems.proofs.Demand1.{demand1}
use Rattle.theorems.proofs.Demand2.{four_set_up}
use Rattle.theorems.proofs.Demand3.{four_write_shows}
use Rattle.theorems.proofs.HeadMark.{four_spent}
use Rattle.theorems.proofs.Tables.{four_true}
use Rattle.theorems.proofs.Writes.{write_iff}
use Rattle.theorems.proofs.Agree.{head_of, reached_after, agree}
use Rattle.theorems.proofs.Within.{first, after, set_up_within, among, not_among, within_not}
use Rattle.theorems.proofs.GeneratedCalls.{seed_shows, seed_accepted, load_lines, set_up_four, stay, ends_most, end_within, reach_most, runs_to, each_of, run_as, fed_to, reached_to, account_as, reached_as}

-- ── where it is refused ──

module _ (seed count code : ℕ) (key iv area : List ℕ) where
  by_seed_17 : seed ≡ 0 → test_load seed count code key iv area ≡ refused 17
  unfolding test_load seed_and_count
  by_seed_17 z = rw (eq-eqb seed 0 z)

  by_count_18 : (seed ≡ 0 → ⊥) → 1000 < count → test_load seed count code key iv area ≡ refused 18
  unfolding test_load seed_and_count
  by_count_18 z l = rw (ne_eqb seed 0 z, lt-leb count 1000 l)

  -- once 17 and 18 are passed
  passed : (seed ≡ 0 → ⊥) → count ≤ 1000 → test_load seed count code key iv area ≡ (set_up code key iv area >>= λ e. accepted (run_calls (generated_calls seed count) e))
  unfolding test_load
  passed z l = rw (seed_accepted seed count z l)

  as_set_up : (n : ℕ) → (seed ≡ 0 → ⊥) → count ≤ 1000 → (test_load seed count code key iv area ≡ refused n) ↔ (set_up code key iv area ≡ refused n)
  as_set_up n z l = rw (passed z l) (refused_iff (run_calls (generated_calls seed count)) (set_up code key iv area) n)

refusal_one : {A : Type 0} {r : Result A} {m n : ℕ} → r ≡ refused m → r ≡ refused n → m ≡ n
refusal_one p q = cc

-- 17 and 18 are no refusals of set up
other_number : (code : ℕ) (key iv area : List ℕ) (n : ℕ) → among n (1 ∷ 2 ∷ 3 ∷ 4 ∷ []) ≡ false → set_up code key iv area ≡ refused n → ⊥
unfolding set_up
other_number code key iv area n q e =
    within_not n (1 ∷ 2 ∷ 3 ∷ 4 ∷ []) _
    (set_up_within code (length key) (length iv) (length area) first (after first) (after (after first)) (after (after (after first)))) q
    ((refused_iff _ (set_up_check code (length key) (length iv) (length area)) n).0 e)

module _ (seed count code : ℕ) (key iv area : List ℕ) where
  refused_17 : (test_load seed count code key iv area ≡ refused 17) ↔ (seed ≡ 0)
  refused_17 = (
    (λ e. ⊎_elim (λ z. z) (λ z. ⊎_elim
        (λ l. let d = refusal_one (by_count_18 seed count code key iv area z l) e in absurd (omega arith))
        (λ l. absurd (other_number code key iv area 17 refl ((as_set_up seed count code key iv area 17 z l).0 e)))
        (below_or_not 1000 count)) (zero_or_not seed)),
    by_seed_17 seed count code key iv area,
  )

  refused_18 : (test_load seed count code key iv area ≡ refused 18) ↔ ((seed ≡ 0 → ⊥) × (1000 < count))
  refused_18 = (
    (λ e. ⊎_elim
        (λ z. let d = refusal_one (by_seed_17 seed count code key iv area z) e in absurd (omega arith))
        (λ z. (
          z,
          ⊎_elim
              (λ l. l)
              (λ l. absurd (other_number code key iv area 18 refl ((as_set_up seed count code key iv area 18 z l).0 e)))
              (below_or_not 1000 count),
        ))
        (zero_or_not seed)),
    (λ t. by_count_18 seed count code key iv area t.0 t.1),
  )

-- ── where it is accepted ──

-- what an accepted load shows
pub record LoadShows (seed count code : ℕ) (key iv area : List ℕ) (c : Cipher) : Type 0 where
  pub seed_is : seed ≡ 0 → ⊥
  pub count_is : count ≤ 1000
  pub code_is : code ≡ code_of c
  pub pair : Pair c key iv
  pub sized : length area ≡ area_length c

load_shows : (seed count code : ℕ) (key iv area : List ℕ) (e : Engine) → AllBytes key → AllBytes iv → test_load seed count code key iv area ≡ accepted e
    → (c : Cipher) × LoadShows seed count code key iv area c
load_shows seed count code key iv area e kb vb q =
    after_line (seed_and_count seed count >> set_up_check code (length key) (length iv) (length area)) _ (sym (load_lines seed count code key iv area) ∙ q)
    (λ _. no_refusal) λ c e₁ r₁.
    let t = seed_shows seed count _ e₁ in
    let s = set_up_shows code (length key) (length iv) (length area) c t.2 in (
      c,
      record {
        seed_is = t.0;
        count_is = t.1;
        code_is = s.code_is;
        pair = record { key_long = s.key_long; iv_long = s.iv_long; key_bytes = kb; iv_bytes = vb };
        sized = s.sized;
      },
    )

module _ (seed count : ℕ) (c : Cipher) (key iv : List ℕ) (z : seed ≡ 0 → ⊥) (l : count ≤ 1000) (pair : Pair c key iv) where
  abbrev calls : List GeneratedCall
  calls = generated_calls seed count

  start_is : IsFour (at_start c key iv)
  start_is = record { pair = pair; within = omega arith }

  set_up_check_lem : (size : ℕ) → size ≡ area_length c → set_up_check (code_of c) (length key) (length iv) size ≡ accepted c
  set_up_check_lem size y = set_up_accepted (code_of c) (length key) (length iv) size c (code_of_lem c) pair.key_long pair.iv_long y

  check_accepted : (size : ℕ) → size ≡ area_length c → (seed_and_count seed count >> set_up_check (code_of c) (length key) (length iv) size) ≡ accepted c
  check_accepted size y = rw (seed_accepted seed count z l, set_up_check_lem size y)

  four_is : IsFour (four_after seed count c key iv)
  four_is = record { pair = pair; within = end_within calls 0 (omega arith) (stay seed count l) }

  ran : run_calls calls (engine_of_four (at_start c key iv) 0) ≡ engine_of_four (four_after seed count c key iv) (mark_after_load seed count)
  ran =
      runs_to calls (at_start c key iv) 0 start_is (stay seed count l)
      ∙ ap (engine_of_four (four_after seed count c key iv)) (zero-max (mark_after_load seed count))

  leaves : (area : List ℕ) → length area ≡ area_length c
      → test_load seed count (code_of c) key iv area ≡ accepted (engine_of_four (four_after seed count c key iv) (mark_after_load seed count))
  leaves area y =
      load_lines seed count (code_of c) key iv area
      ∙ rw (check_accepted (length area) y)
      (ap accepted (ap (run_calls calls) (set_up_four (code_of c) c key iv refl) ∙ ran))

  module _ (size : ℕ) (y : size ≡ area_length c) (a : Account) where
    -- the account after set up, and after the load
    set_up_fed : feed size a (call_set_up (code_of c) key iv) ≡ holds (at_start c key iv)
    unfolding feed
    set_up_fed = ap (λ (r : Result Cipher). unless_refused a r (λ d. holds (at_start d key iv))) (set_up_check_lem size y)

    load_fed : feed size a (call_test_load seed count (code_of c) key iv) ≡ feed_generated size (holds (at_start c key iv)) calls
    unfolding feed
    load_fed = ap (λ (r : Result Cipher). unless_refused a r (λ d. feed_generated size (holds (at_start d key iv)) calls)) (check_accepted size y)

    fed : feed size a (call_test_load seed count (code_of c) key iv) ≡ holds (four_after seed count c key iv)
    fed = load_fed ∙ fed_to size calls (at_start c key iv) start_is y (stay seed count l)

    fed_as : feed size a (call_test_load seed count (code_of c) key iv) ≡ account size (set_up_and_calls seed count (code_of c) key iv) a
    unfolding account
    fed_as =
        load_fed ∙ account_as size calls (at_start c key iv) start_is y (stay seed count l) ∙ ap (account size (as_calls 0 calls)) (sym set_up_fed)

    -- what has been reached after set up, and after the load
    module _ (reached : List ℕ) where
      set_up_reached : reached_by size a reached (call_set_up (code_of c) key iv) ≡ 0 ∷ []
      unfolding reached_by
      set_up_reached = ap (λ (r : Result Cipher). unless_refused reached r (λ d. 0 ∷ [])) (set_up_check_lem size y)

      load_reached : reached_by size a reached (call_test_load seed count (code_of c) key iv)
          ≡ reached_by_generated size (holds (at_start c key iv)) (0 ∷ []) calls
      unfolding reached_by
      load_reached =
          ap (λ (r : Result Cipher). unless_refused reached r (λ d. reached_by_generated size (holds (at_start d key iv)) (0 ∷ []) calls)) (check_accepted size y)

      reaches : largest (reached_by size a reached (call_test_load seed count (code_of c) key iv)) ≡ mark_after_load seed count
      unfolding largest
      reaches =
          ap largest load_reached
          ∙ reached_to size calls (at_start c key iv) (0 ∷ []) start_is y (stay seed count l)
          ∙ zero-max (mark_after_load seed count)

      reached_as_calls : reached_by size a reached (call_test_load seed count (code_of c) key iv)
          ≡ reached_since size (set_up_and_calls seed count (code_of c) key iv) a reached
      unfolding reached_since
      reached_as_calls =
          load_reached
          ∙ reached_as size calls (at_start c key iv) (0 ∷ []) start_is y (stay seed count l)
          ∙ ap₂ (reached_since size (as_calls 0 calls)) (sym set_up_fed) (sym set_up_reached)

  module _ (e : Engine) (y : length e.area ≡ area_length c) where
    -- set up answers and leaves
    set_up_answers : answered e (call_set_up (code_of c) key iv) ≡ 0
    unfolding answered set_up_call
    set_up_answers = ap (λ (r : Result Engine). (outcome (engine_of e.head e.area) r).refusal) (four_set_up c key iv e.area pair y)

    set_up_called : called e (call_set_up (code_of c) key iv) ≡ engine_of_four (at_start c key iv) 0
    unfolding called set_up_call
    set_up_called = ap (λ (r : Result Engine). (outcome (engine_of e.head e.area) r).value) (four_set_up c key iv e.area pair y)

    each_accepted : EachAccepted e (set_up_and_calls seed count (code_of c) key iv)
    each_accepted = (
      set_up_answers,
      subst (λ (x : Engine). EachAccepted x (as_calls 0 calls)) (sym set_up_called) (each_of calls (at_start c key iv) 0 start_is (stay seed count l)),
    )

    called_as : called e (call_test_load seed count (code_of c) key iv) ≡ run (set_up_and_calls seed count (code_of c) key iv) e
    unfolding called run test_load_call
    called_as =
        ap (λ (r : Result Engine). (outcome (engine_of e.head e.area) r).value) (leaves e.area y)
        ∙ sym ran
        ∙ run_as calls (at_start c key iv) 0 start_is (stay seed count l)
        ∙ ap (run (as_calls 0 calls)) (sym set_up_called)

-- an answer of 0 is that of an accepted load
answers_0 : {A : Type 0} {numbers : List ℕ} {old : A} {r : Result A} {o : Outcome A} → AcceptedOrRefused numbers old r o → o.refusal ≡ 0
    → among 0 numbers ≡ false → (new : A) × (r ≡ accepted new)
answers_0 (inl a) z q = (a.new, a.result_is)
answers_0 {numbers = numbers} (inr b) z q =
    let n : b.number ≡ 0 = sym (ap (λ (x : Outcome _). x.refusal) b.outcome_is) ∙ z in
    absurd (not_among 0 numbers (rw n at b.one_of) q)

module _ (e : Engine) (seed count code : ℕ) (key iv : List ℕ) where
  accepted_0 : answered e (call_test_load seed count code key iv) ≡ 0 → (x : Engine) × (test_load seed count code key iv e.area ≡ accepted x)
  unfolding answered
  accepted_0 z = answers_0 (demand1.of_test_load e.head seed count code key iv e.area) z refl

  module _ (kb : AllBytes key) (vb : AllBytes iv) (z : answered e (call_test_load seed count code key iv) ≡ 0) where
    shown : (c : Cipher) × LoadShows seed count code key iv e.area c
    shown = let a = accepted_0 z in load_shows seed count code key iv e.area a.0 kb vb a.1

    each : EachAccepted e (set_up_and_calls seed count code key iv)
    each =
        let (c, s) = shown in
        rw s.code_is (each_accepted seed count c key iv s.seed_is s.count_is s.pair e s.sized)

    those_calls : (a : Account) (reached : List ℕ)
        → (called e (call_test_load seed count code key iv) ≡ run (set_up_and_calls seed count code key iv) e)
        × (feed (length e.area) a (call_test_load seed count code key iv) ≡ account (length e.area) (set_up_and_calls seed count code key iv) a)
        × (reached_by (length e.area) a reached (call_test_load seed count code key iv)
        ≡ reached_since (length e.area) (set_up_and_calls seed count code key iv) a reached)
    those_calls a reached =
        let (c, s) = shown in
        rw s.code_is (
          called_as seed count c key iv s.seed_is s.count_is s.pair e s.sized,
          fed_as seed count c key iv s.seed_is s.count_is s.pair (length e.area) s.sized a,
          reached_as_calls seed count c key iv s.seed_is s.count_is s.pair (length e.area) s.sized a reached,
        )

-- ── a write and spent after it ──

-- the cipher of an accepted load is that of its code
of_code : (seed count : ℕ) (c : Cipher) (key iv area : List ℕ) (e : Engine) → AllBytes key → AllBytes iv
    → test_load seed count (code_of c) key iv area ≡ accepted e → LoadShows seed count (code_of c) key iv area c
of_code seed count c key iv area e kb vb q =
    let (d, s) = load_shows seed count (code_of c) key iv area e kb vb q in
    subst (LoadShows seed count (code_of c) key iv area) (sym (same_code c d s.code_is)) s

module _ (seed count : ℕ) (c : Cipher) (key iv area : List ℕ) (e : Engine) (kb : AllBytes key) (vb : AllBytes iv)
    (q : test_load seed count (code_of c) key iv area ≡ accepted e) where
  abbrev f : Four
  f = four_after seed count c key iv

  abbrev mark : ℕ
  mark = mark_after_load seed count

  shows : LoadShows seed count (code_of c) key iv area c
  shows = of_code seed count c key iv area e kb vb q

  engine_is : e ≡ engine_of_four f mark
  engine_is = accepted_one q (leaves seed count c key iv shows.seed_is shows.count_is shows.pair area shows.sized)

  is_four : IsFour f
  is_four = four_is seed count c key iv shows.seed_is shows.count_is shows.pair

  checkpoint : (lent : List ℕ) (w : Written) → write e.head e.area lent ≡ accepted w → Checkpoint (given w) f
  unfolding checkpoint_of
  checkpoint lent w x =
      let s = four_write_shows f mark (tables_of f) lent w (rw engine_is at x) in
      record { is_four = is_four; string_is = s.string }

  writable : (lent : List ℕ) → ((w : Written) × (write e.head e.area lent ≡ accepted w)) ↔ (length_of c (position_after seed count) ≤ length lent)
  writable lent = rw engine_is (write_iff (head_of (holds f) mark) (tables_of f) lent c (four_true f (tables_of f) _ is_four refl refl))

  spends : spent e.head ≡ accepted (record { head = e.head; count = mark })
  spends = rw engine_is (four_spent f mark is_four)

-- ── where it is refused in a list ──

unless_is : {A B : Type 0} (old : B) (r : Result A) (g : A → B) (n : ℕ) → r ≡ refused n → unless_refused old r g ≡ old
unless_is old r g n q = rw q

module _ (e : Engine) (a : Account) (reached : List ℕ) (seed count code : ℕ) (key iv : List ℕ) where
  left : (r : Result Engine) → test_load seed count code key iv e.area ≡ r → (answered e (call_test_load seed count code key iv) ≡ 0 → ⊥)
      → (called e (call_test_load seed count code key iv) ≡ e) × (feed (length e.area) a (call_test_load seed count code key iv) ≡ a)
      × (reached_by (length e.area) a reached (call_test_load seed count code key iv) ≡ reached)
  unfolding answered called test_load_call feed reached_by
  left (refused n) q z =
      let check = seed_and_count seed count >> set_up_check code (length key) (length iv) (length e.area) in
      let c = (refused_iff _ check n).0 (sym (load_lines seed count code key iv e.area) ∙ q) in (
        ap (λ (r : Result Engine). (outcome (engine_of e.head e.area) r).value) q,
        unless_is a check _ n c,
        unless_is reached check _ n c,
      )
  left (accepted x) q z = absurd (z (ap (λ (r : Result Engine). (outcome (engine_of e.head e.area) r).refusal) q))

-- ── words ──

beginning : (word m n : ℕ) → m ≤ n → take m (generated_calls word n) ≡ generated_calls word m
unfolding generated_calls
beginning word zero n l = refl
beginning word (suc m) zero l = absurd (omega arith)
beginning word (suc m) (suc n) l = ap (λ (x : List GeneratedCall). call_of (next_word word) ∷ x) (beginning (next_word word) m n (omega arith))

same_lines : (r : Result Engine) → (r >>= λ e. accepted e) ≡ r
same_lines (refused n) = refl
same_lines (accepted e) = refl

no_calls : (seed code : ℕ) (key iv area : List ℕ) → (seed ≡ 0 → ⊥) → test_load seed 0 code key iv area ≡ set_up code key iv area
unfolding generated_calls run_calls
no_calls seed code key iv area z = passed seed 0 code key iv area z (omega arith) ∙ same_lines (set_up code key iv area)

never_near : (seed m count : ℕ) → m ≤ count → count ≤ 1000 → end_of_calls 0 (take m (generated_calls seed count)) ≤ 260095
never_near seed m count l h = rw (beginning seed m count l) (omega (arith, ends_most seed m 0 4095 (omega arith) (omega arith)))

-- ── from two engines ──

same_load : (seed count code : ℕ) (key iv area area' : List ℕ) → length area ≡ length area'
    → test_load seed count code key iv area ≡ test_load seed count code key iv area'
same_load seed count code key iv area area' q =
    load_lines seed count code key iv area ∙ rw q (sym (load_lines seed count code key iv area'))

same_refusal : {A : Type 0} (old old' : A) (r : Result A) → (outcome old r).refusal ≡ (outcome old' r).refusal
same_refusal old old' (refused n) = refl
same_refusal old old' (accepted x) = refl

module _ (e e' : Engine) (seed count code : ℕ) (key iv : List ℕ) (q : length e.area ≡ length e'.area) where
  same_answer : answered e (call_test_load seed count code key iv) ≡ answered e' (call_test_load seed count code key iv)
  unfolding answered test_load_call
  same_answer =
      same_refusal (engine_of e.head e.area) (engine_of e'.head e'.area) (test_load seed count code key iv e.area)
      ∙ ap (λ (r : Result Engine). (outcome (engine_of e'.head e'.area) r).refusal) (same_load seed count code key iv e.area e'.area q)

  same_engine : answered e (call_test_load seed count code key iv) ≡ 0
      → called e (call_test_load seed count code key iv) ≡ called e' (call_test_load seed count code key iv)
  unfolding called test_load_call
  same_engine z =
      let (x, a) = accepted_0 e seed count code key iv z in
      ap (λ (r : Result Engine). (outcome (engine_of e.head e.area) r).value) a
      ∙ ap (λ (r : Result Engine). (outcome (engine_of e'.head e'.area) r).value)
      (sym (sym (same_load seed count code key iv e.area e'.area q) ∙ a))

-- ── inside a list ──

run_on : (first second : List Call) (e : Engine) → run (first ++ second) e ≡ run second (run first e)
unfolding run
run_on [] second e = refl
run_on (call ∷ first) second e = run_on first second (called e call)

account_on : (size : ℕ) (first second : List Call) (a : Account) → account size (first ++ second) a ≡ account size second (account size first a)
unfolding account
account_on size [] second a = refl
account_on size (call ∷ first) second a = account_on size first second (feed size a call)

reached_on : (size : ℕ) (first second : List Call) (a : Account) (reached : List ℕ)
    → reached_since size (first ++ second) a reached ≡ reached_since size second (account size first a) (reached_since size first a reached)
unfolding account reached_since
reached_on size [] second a reached = refl
reached_on size (call ∷ first) second a reached = reached_on size first second (feed size a call) (reached_by size a reached call)

calls_given : (calls : List GeneratedCall) (p : ℕ) → AllGiven (as_calls p calls)
unfolding as_calls
calls_given [] p = tt
calls_given (move_to_byte byte ∷ calls) p = (tt, calls_given calls byte)
calls_given (cipher_zeros n ∷ calls) p = (tt, calls_given calls (p + n))

module _ (before after : List Call) (area : List ℕ) (seed count code : ℕ) (key iv : List ℕ) (g : AllGiven before) (kb : AllBytes key) (vb : AllBytes iv)
    (z : answered (engine_after before area) (call_test_load seed count code key iv) ≡ 0) where
  abbrev size : ℕ
  size = length area

  abbrev load : Call
  load = call_test_load seed count code key iv

  abbrev in_its_place : List Call
  in_its_place = set_up_and_calls seed count code key iv

  those : (called (engine_after before area) load ≡ run in_its_place (engine_after before area))
      × (feed size (account_after before area) load ≡ account size in_its_place (account_after before area))
      × (reached_by size (account_after before area) (reached_after before area) load
      ≡ reached_since size in_its_place (account_after before area) (reached_after before area))
  those =
      subst
      (λ (n : ℕ). (called (engine_after before area) load ≡ run in_its_place (engine_after before area))
      × (feed n (account_after before area) load ≡ account n in_its_place (account_after before area))
      × (reached_by n (account_after before area) (reached_after before area) load
      ≡ reached_since n in_its_place (account_after before area) (reached_after before area)))
      (agree before g area).sized
      (those_calls (engine_after before area) seed count code key iv kb vb z (account_after before area) (reached_after before area))

  engine_in_lem : engine_after (before ++ (load ∷ after)) area ≡ engine_after (before ++ (in_its_place ++ after)) area
  unfolding run
  engine_in_lem =
      run_on before (load ∷ after) _
      ∙ ap (run after) those.0
      ∙ sym (run_on in_its_place after _)
      ∙ sym (run_on before (in_its_place ++ after) _)

  account_in : account_after (before ++ (load ∷ after)) area ≡ account_after (before ++ (in_its_place ++ after)) area
  unfolding account
  account_in =
      account_on size before (load ∷ after) _
      ∙ ap (account size after) those.1
      ∙ sym (account_on size in_its_place after _)
      ∙ sym (account_on size before (in_its_place ++ after) _)

  farthest_in : farthest_after (before ++ (load ∷ after)) area ≡ farthest_after (before ++ (in_its_place ++ after)) area
  unfolding reached_since
  farthest_in =
      ap largest
      (reached_on size before (load ∷ after) _ _
      ∙ ap₂ (reached_since size after) those.1 those.2
      ∙ sym (reached_on size in_its_place after _ _)
      ∙ sym (reached_on size before (in_its_place ++ after) _ _))

pub test_load_lem : TestLoad
unfolding next_word call_of generated_calls end_of_calls ends_of_ciphers largest
test_load_lem = record {
  refused_17 = refused_17;
  refused_18 = refused_18;
  refused_as_set_up = as_set_up;
  leaves = λ seed count c key iv area z l pair y. leaves seed count c key iv z l pair area y;
  accepted_only = λ seed count code key iv area e kb vb q.
      let (c, s) = load_shows seed count code key iv area e kb vb q in
      (s.seed_is, s.count_is, (c, s.code_is, s.pair, s.sized));
  each_accepted = each;
  checkpoint = λ seed count c key iv area lent e w kb vb q. checkpoint seed count c key iv area e kb vb q lent w;
  writable = λ seed count c key iv area lent e kb vb q. writable seed count c key iv area e kb vb q lent;
  spent_after = λ seed count code key iv area e kb vb q.
      let (c, s) = load_shows seed count code key iv area e kb vb q in
      spends seed count c key iv area e kb vb (rw s.code_is at q);
  as_those_calls = λ e a reached seed count code key iv kb vb z. those_calls e seed count code key iv kb vb z a reached;
  account_is = λ size seed count a reached c key iv z l pair y.
      (fed seed count c key iv z l pair size y a, reaches seed count c key iv z l pair size y a reached);
  refused_leaves = λ e a reached seed count code key iv. left e a reached seed count code key iv (test_load seed count code key iv e.area) refl;
  in_a_list = λ before after area seed count code key iv g kb vb z. (
    engine_in_lem before after area seed count code key iv g kb vb z,
    account_in before after area seed count code key iv g kb vb z,
    farthest_in before after area seed count code key iv g kb vb z,
  );
  all_given = λ seed count code key iv kb vb. ((kb, vb), calls_given (generated_calls seed count) 0);
  position_most = λ seed count. ends_most seed count 0 4095 (omega arith) (omega arith);
  mark_most = λ seed count. reach_most seed count 0 4095 (omega arith) (omega arith);
  beginning = beginning;
  never_near = never_near;
  repeated = λ e e' seed count code key iv q. (same_answer e e' seed count code key iv q, same_engine e e' seed count code key iv q);
  no_calls = no_calls;
  word_fits = word_fits;
  word_0 = λ x l. (not_0 x l, (λ e. rw e));
  from_1 = refl;
  from_2 = refl;
  from_highest = refl;
  from_all_bits = refl;
  six_calls = refl;
  first_even = refl;
  five_end = refl;
  six_end = (refl, refl);
  no_bytes = refl;
  no_bytes_end = (refl, refl);
  back = refl;
  back_end = (refl, refl);
}
