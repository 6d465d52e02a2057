-- Two checkpoints of one cipher have the same key and IV exactly where moving the first to the position of the second writes the second.
-- Assumes nothing.
use mathlib.Core.Path.{◌≡◌, refl, sym, ap, ◌∙◌, subst₂}
use mathlib.Core.Bool.{Bool, true, false, ◌&&◌, false≢true}
use mathlib.Core.List.{List, []}
use mathlib.Core.Logic.{◌↔◌, ◌⊎◌, inl, inr}
use Prim.Native.Nat.{ℕ, ◌≤◌}
use lib.IntN.{ℤ}
use borrow.Author.Tests.{eq-eqb, ne_eqb, eqb-true}
use lib.Dec.{eqb}
use lib.ListN.{length, replicate, length-replicate}
use Rattle.laws.specs.Same.{same}
use Rattle.laws.proofs.Same.{and_left, and_right, equal_same, same_equal}
use Rattle.laws.specs.Result.{Result, refused, accepted, ◌>>◌, refuse◌unless◌}
use Rattle.laws.proofs.Results.{no_refusal, accepted_one, refused_iff, after_line, after_unless}
use Rattle.word.specs.Bytes.{AllBytes}
use Rattle.cipher.specs.declared.Cipher.{Cipher}
use Rattle.cipher.specs.Numbers.{code_of, by_code, area_length}
use Rattle.cipher.proofs.Codes.{same_code}
use Rattle.varint.specs.Number.{read_groups}
use Rattle.checkpoint.specs.Checkpoint.{length_of}
use Rattle.checkpoint.proofs.Checkpoint.{layout_length}
use Rattle.conditions.specs.Conditions.{Contents, cipher_in, contents_in, load_check, string_check}
use Rattle.engine.specs.Calls.{Loaded, eight_words, move, load}
use Rattle.same_run.specs.SameRun.{same_key_and_iv, same_run}
use Rattle.theorems.specs.Account.{Four, IsFour, holds, at_position, engine_of_four, tables_of, checkpoint_of, Checkpoint}
use Rattle.theorems.specs.Demand3.{given}
use Rattle.theorems.specs.SameRun.{BothLoad, OneCipher, distance, MovedAndWritten, LoadRefuses, Loads, WrittenAfter, SameRun}
use Rattle.move_to.proofs.Moves.{ends_at}
use Rattle.theorems.proofs.Tables.{four_area, four_true}
use Rattle.theorems.proofs.Checkpoints.{four_of, loaded_of, load_checkpoint, load_shows, load_is, checkpoint_of_one}
use Rattle.theorems.proofs.Names.{key_and_iv_one}
use Rattle.theorems.proofs.Writes.{write_iff}
use Rattle.theorems.proofs.Within.{within_not}
use Rattle.theorems.proofs.Demand1.{same_run_numbers, string_within, same_run_within}
use Rattle.theorems.proofs.Demand2.{four_movable}
use Rattle.theorems.proofs.Demand3.{opened_of, after_load, four_write_shows, written}

-- ── load's conditions with an area and without ──

number : {A : Type 0} {n m : ℕ} → ◌≡◌ {A = Result A} (refused n) (refused m) → n ≡ m
number q = cc

module _ (string : List ℕ) where
  -- what load gives other than 4 is what it gives of the string
  of_cipher : (size : ℕ) (r : Result Cipher) → cipher_in string ≡ r → {x : Result Contents} → (x ≡ refused 4 → ⊥) → load_check string size ≡ x
      → string_check string ≡ x
  unfolding load_check string_check
  of_cipher size (refused n) k h e = rw k (rw k at e)
  of_cipher size (accepted c) k h e = after_unless 4 (eqb size (area_length c)) _ (rw k at e) h λ _ r. rw k r

  of_string : (size : ℕ) {x : Result Contents} → (x ≡ refused 4 → ⊥) → load_check string size ≡ x → string_check string ≡ x
  of_string size h e = of_cipher size (cipher_in string) refl h e

  -- a size with which load gives what it gives of the string
  size_of : (r : Result Cipher) → cipher_in string ≡ r → (size : ℕ) × (load_check string size ≡ string_check string)
  unfolding load_check string_check
  size_of (refused n) k = (0, rw k)
  size_of (accepted c) k = (area_length c, rw (k, eq-eqb (area_length c) (area_length c) refl))

  -- .. and an area of that size
  area_of : {x : Result Contents} → string_check string ≡ x → (area : List ℕ) × (load_check string (length area) ≡ x)
  area_of e =
      let (size, q) = size_of (cipher_in string) refl in
      (replicate size 0, ap (load_check string) (length-replicate size 0) ∙ q ∙ e)

  -- the string of a checkpoint, and no other string of bytes
  checkpoint_string : (f : Four) → Checkpoint string f → string_check string ≡ accepted (loaded_of f)
  checkpoint_string f h = of_string (area_length f.cipher) no_refusal (load_checkpoint string _ f h refl)

  string_checkpoint : (l : Contents) → AllBytes string → string_check string ≡ accepted l → Checkpoint string (four_of l)
  string_checkpoint l all e = let (area, q) = area_of e in (load_shows string (length area) l all q).checkpoint

  -- the same of load itself
  refuses : (n : ℕ) → LoadRefuses string n ↔ (string_check string ≡ refused n)
  unfolding load
  refuses n = (
    (λ t. of_string (length t.0) (λ q. t.2 (number q)) ((refused_iff opened_of (load_check string (length t.0)) n).0 t.1)),
    (λ e.
        let (area, q) = area_of e in (
          area,
          rw q,
          (λ four. within_not 4 _ (string_check string) (string_within {others = []} string) refl (e ∙ ap refused four)),
        )),
  )

  loads : (l : Contents) → string_check string ≡ accepted l → (area : List ℕ) × (load string area ≡ accepted (opened_of l))
  unfolding load
  loads l e = let (area, q) = area_of e in (area, rw q)

  loaded : (area : List ℕ) (o : Loaded) → load string area ≡ accepted o → (l : Contents) × (string_check string ≡ accepted l) × (opened_of l ≡ o)
  loaded area o e = after_load string area o e λ l e₁ r₁. (l, of_string (length area) no_refusal e₁, r₁)

-- ── the answer for two fours ──

both_same : (k k' v v' : List ℕ) → (same k k' && same v v' ≡ true) ↔ ((k ≡ k') × (v ≡ v'))
both_same k k' v v' = (
  (λ e. (same_equal k k' (and_left (same k k') (same v v') e), same_equal v v' (and_right (same k k') (same v v') e))),
  (λ p. rw (equal_same k k' p.0) (equal_same v v' p.1)),
)

-- where there is an answer, it is no exactly where it is not yes
no_of_yes : {P : Type 0} (X : Result Bool) (answer : Bool) → X ≡ accepted answer → (X ≡ accepted true) ↔ P → (X ≡ accepted false) ↔ (P → ⊥)
no_of_yes X true e i = ((λ q p. false≢true (accepted_one q (i.1 p))), (λ h. absurd (h (i.0 e))))
no_of_yes X false e i = ((λ q p. false≢true (accepted_one q (i.1 p))), (λ h. e))

module _ (first second : List ℕ) (f g : Four) (h : Checkpoint first f) (i : Checkpoint second g) where
  pub answered : f.cipher ≡ g.cipher → same_run first second ≡ accepted (same f.key g.key && same f.iv g.iv)
  unfolding same_run
  answered c =
      rw (checkpoint_string first f h, checkpoint_string second g i, eq-eqb (code_of f.cipher) (code_of g.cipher) (ap code_of c))

  -- an answer shows that the cipher is one
  one_cipher : (answer : Bool) → same_run first second ≡ accepted answer → f.cipher ≡ g.cipher
  unfolding same_run
  one_cipher answer e =
      after_unless 23 (eqb (code_of f.cipher) (code_of g.cipher)) _ (rw (checkpoint_string first f h, checkpoint_string second g i) at e) no_refusal λ q _.
      same_code f.cipher g.cipher (eqb-true _ _ q)

  yes_iff : f.cipher ≡ g.cipher → (same_run first second ≡ accepted true) ↔ ((f.key ≡ g.key) × (f.iv ≡ g.iv))
  yes_iff c =
      let same-iff = both_same f.key g.key f.iv g.iv in
      ((λ e. same-iff.0 (accepted_one (answered c) e)), (λ p. answered c ∙ ap accepted (same-iff.1 p)))

  no_iff : f.cipher ≡ g.cipher → (same_run first second ≡ accepted false) ↔ ((f.key ≡ g.key) × (f.iv ≡ g.iv) → ⊥)
  no_iff c = no_of_yes _ _ (answered c) (yes_iff c)

  two_ciphers : (same_run first second ≡ refused 23) ↔ (f.cipher ≡ g.cipher → ⊥)
  unfolding same_run
  two_ciphers = (
    (λ e c. no_refusal (sym (answered c) ∙ e)),
    (λ differ.
        rw (
          checkpoint_string first f h,
          checkpoint_string second g i,
          ne_eqb (code_of f.cipher) (code_of g.cipher) (λ e. differ (same_code f.cipher g.cipher e)),
        )),
  )

-- ── moved to the other's position, and written ──

at_other : (f g : Four) → f.cipher ≡ g.cipher → (f.key ≡ g.key) × (f.iv ≡ g.iv) → at_position f g.position ≡ g
at_other f g c p = λ i. record { cipher = c i; key = p.0 i; iv = p.1 i; position = g.position }

module _ (f g : Four) (hf : IsFour f) (hg : IsFour g) (lent : List ℕ) where
  abbrev there : Four
  there = at_position f g.position

  there_four : IsFour there
  there_four = record { pair = hf.pair; within = hg.within }

  abbrev d : ℤ
  d = distance (opened_of (loaded_of f)) (opened_of (loaded_of g))

  four_moves : move (engine_of_four f f.position).head (tables_of f) d ≡ accepted (engine_of_four there f.position)
  four_moves = four_movable f f.position d g.position hf (ends_at f.position g.position) hg.within

  -- what is written is the checkpoint of the four that was moved
  four_writes : (m : MovedAndWritten (opened_of (loaded_of f)) d lent) → given m.w ≡ checkpoint_of there
  unfolding checkpoint_of
  four_writes m =
      let e : m.there ≡ engine_of_four there f.position = accepted_one m.moved four_moves in
      (four_write_shows there f.position (tables_of there) lent m.w (rw e at m.written)).string

  four_moves_and_writes : length_of f.cipher g.position ≤ length lent → MovedAndWritten (opened_of (loaded_of f)) d lent
  four_moves_and_writes l =
      let (w, e) = (write_iff (engine_of_four there f.position).head (tables_of there) lent f.cipher (four_true there (tables_of there) _ there_four refl refl)).1 l in
      record { there = engine_of_four there f.position; moved = four_moves; w = w; written = e }

  -- that is the second string exactly where key and IV are the same
  writes_iff : (second : List ℕ) → Checkpoint second g → f.cipher ≡ g.cipher → (m : MovedAndWritten (opened_of (loaded_of f)) d lent)
      → ((f.key ≡ g.key) × (f.iv ≡ g.iv)) ↔ (given m.w ≡ second)
  writes_iff second i c m = (
    (λ p. four_writes m ∙ ap checkpoint_of (at_other f g c p) ∙ sym i.string_is),
    (λ e.
        let one = checkpoint_of_one second there g (record { is_four = there_four; string_is = sym e ∙ four_writes m }) i in
        (ap (λ (x : Four). x.key) one, ap (λ (x : Four). x.iv) one)),
  )

-- what load has accepted is the four whose checkpoint the string is
loaded_four : (string area : List ℕ) (o : Loaded) → AllBytes string → load string area ≡ accepted o
    → (f : Four) × Checkpoint string f × (opened_of (loaded_of f) ≡ o)
loaded_four string area o all e =
    after_load string area o e λ l e₁ r₁.
    let s = (load_shows string (length area) l all e₁).checkpoint in
    (four_of l, s, ap opened_of (sym (load_is string (length area) l (four_of l) e₁ s)) ∙ r₁)

-- ── two strings that load accepts ──

module _ (first second lent : List ℕ) (t : BothLoad first second) (one : OneCipher t) (bytes : AllBytes first) (bytes' : AllBytes second) where
  -- the two fours, and what is shown of them is shown of what was loaded
  by_fours : (P : (a b : Loaded) → Type 0)
      → ((f g : Four) → Checkpoint first f → Checkpoint second g → f.cipher ≡ g.cipher → P (opened_of (loaded_of f)) (opened_of (loaded_of g)))
      → P t.a t.b
  by_fours P k =
      let (f, h, ef) = loaded_four first t.area t.a bytes t.first_loads in
      let (g, i, eg) = loaded_four second t.area' t.b bytes' t.second_loads in
      let code = ap (λ (o : Loaded). o.engine.head.code) ef ∙ one ∙ ap (λ (o : Loaded). o.engine.head.code) (sym eg) in
      subst₂ P ef eg (k f g h i (same_code f.cipher g.cipher code))

  yes_iff_loaded : (same_run first second ≡ accepted true) ↔ ((t.a.key ≡ t.b.key) × (t.a.iv ≡ t.b.iv))
  yes_iff_loaded =
      by_fours (λ a b. (same_run first second ≡ accepted true) ↔ ((a.key ≡ b.key) × (a.iv ≡ b.iv))) λ f g h i c.
      let y = yes_iff first second f g h i c in (
        (λ e. let p = y.0 e in (ap eight_words p.0, ap eight_words p.1)),
        (λ p. y.1 (key_and_iv_one f g h.is_four i.is_four c p.0 p.1)),
      )

  moves_and_writes : length second ≤ length lent → MovedAndWritten t.a (distance t.a t.b) lent
  unfolding checkpoint_of
  moves_and_writes l =
      by_fours (λ a b. MovedAndWritten a (distance a b) lent) λ f g h i c.
      let n : length second ≡ length_of g.cipher g.position =
      ap length i.string_is ∙ layout_length g.cipher g.position (tables_of g) (four_area g i.is_four).sized in
      four_moves_and_writes f g h.is_four i.is_four lent (rw (c, ← n) l)

  yes_iff_writes : (m : MovedAndWritten t.a (distance t.a t.b) lent) → (same_run first second ≡ accepted true) ↔ (given m.w ≡ second)
  yes_iff_writes =
      by_fours (λ a b. (m : MovedAndWritten a (distance a b) lent) → (same_run first second ≡ accepted true) ↔ (given m.w ≡ second))
      λ f g h i c m.
      let y = yes_iff first second f g h i c in
      let w = writes_iff f g h.is_four i.is_four lent second i c m in
      ((λ e. w.0 (y.0 e)), (λ e. y.1 (w.1 e)))

  no_iff_writes : (m : MovedAndWritten t.a (distance t.a t.b) lent) → (same_run first second ≡ accepted false) ↔ (given m.w ≡ second → ⊥)
  no_iff_writes m =
      let (answer, e) = by_fours (λ a b. (answer : Bool) × (same_run first second ≡ accepted answer)) λ f g h i c. (_, answered first second f g h i c) in
      no_of_yes _ answer e (yes_iff_writes m)

  same_iff_writes : (m : MovedAndWritten t.a (distance t.a t.b) lent) → ((t.a.key ≡ t.b.key) × (t.a.iv ≡ t.b.iv)) ↔ (given m.w ≡ second)
  same_iff_writes m =
      let loaded-iff = yes_iff_loaded in
      let writes = yes_iff_writes m in
      ((λ p. writes.0 (loaded-iff.1 p)), (λ e. loaded-iff.0 (writes.1 e)))

-- ── which pairs are accepted, and which are refused ──

accepted_iff :
    (first second : List ℕ) → AllBytes first → AllBytes second
    → ((answer : Bool) × (same_run first second ≡ accepted answer))
    ↔ ((f : Four) × (g : Four) × Checkpoint first f × Checkpoint second g × (f.cipher ≡ g.cipher))
unfolding same_run
accepted_iff first second bytes bytes' = (
  (λ t.
      after_line (string_check first) _ t.1 (λ _. no_refusal) λ l e₁ r₁.
      after_line (string_check second) _ r₁ (λ _. no_refusal) λ m e₂ r₂.
      after_unless 23 (eqb (code_of l.cipher) (code_of m.cipher)) _ r₂ no_refusal λ e₃ r₃. (
        four_of l,
        four_of m,
        string_checkpoint first l bytes e₁,
        string_checkpoint second m bytes' e₂,
        same_code l.cipher m.cipher (eqb-true _ _ e₃),
      )),
  (λ t. let (f, g, h, i, c) = t in (_, answered first second f g h i c)),
)

module _ (first second : List ℕ) (n : ℕ) where
  abbrev Refused : Type 0
  Refused = LoadRefuses first n ⊎ ((Loads first × LoadRefuses second n) ⊎ ((t : BothLoad first second) × (OneCipher t → ⊥) × (n ≡ 23)))

  last_line : (t answer : Bool) → ((refuse 23 unless t) >> accepted answer) ≡ refused n → (t ≡ false) × (n ≡ 23)
  last_line true answer e = no_refusal e
  last_line false answer e = (refl, sym (number e))

  refused_by : (r q : Result Contents) → string_check first ≡ r → string_check second ≡ q → same_run first second ≡ refused n → Refused
  unfolding same_run
  refused_by (refused m) q e₁ e₂ e = inl ((refuses first n).1 (e₁ ∙ ap refused (number (rw e₁ at e))))
  refused_by (accepted l) (refused m) e₁ e₂ e =
      let (area, e₃) = loads first l e₁ in
      inr (inl ((area, opened_of l, e₃), (refuses second n).1 (e₂ ∙ ap refused (number (rw (e₁, e₂) at e)))))
  refused_by (accepted l) (accepted m) e₁ e₂ e =
      let (area, e₃) = loads first l e₁ in
      let (area', e₄) = loads second m e₂ in
      let (differ, n-is) = last_line (eqb (code_of l.cipher) (code_of m.cipher)) (same_key_and_iv l m) (rw (e₁, e₂) at e) in
      inr
      (inr (
        record { area = area; area' = area'; a = opened_of l; b = opened_of m; first_loads = e₃; second_loads = e₄ },
        (λ c. false≢true (sym differ ∙ eq-eqb _ _ c)),
        n-is,
      ))

  refused_then : Refused → same_run first second ≡ refused n
  unfolding same_run
  refused_then (inl t) = rw ((refuses first n).0 t)
  refused_then (inr (inl (t, q))) =
      let (l, e₁, _) = loaded first t.0 t.1 t.2 in
      rw (e₁, (refuses second n).0 q)
  refused_then (inr (inr (t, two, n-is))) =
      let (l, e₁, a-is) = loaded first t.area t.a t.first_loads in
      let (m, e₂, b_is) = loaded second t.area' t.b t.second_loads in
      let codes : code_of l.cipher ≡ code_of m.cipher → ⊥ =
      λ c. two (ap (λ (o : Loaded). o.engine.head.code) (sym a-is) ∙ c ∙ ap (λ (o : Loaded). o.engine.head.code) b_is) in
      rw (e₁, e₂, ne_eqb (code_of l.cipher) (code_of m.cipher) codes, n-is)

  refused_exactly : (same_run first second ≡ refused n) ↔ Refused
  refused_exactly = ((λ e. refused_by (string_check first) (string_check second) refl refl e), refused_then)

itself : (string : List ℕ) (f : Four) → Checkpoint string f → same_run string string ≡ accepted true
itself string f h = (yes_iff string string f f h h refl).1 (refl, refl)

other_order : (answer : Bool) (first second : List ℕ) (f g : Four) → Checkpoint first f → Checkpoint second g → f.cipher ≡ g.cipher
    → same_run first second ≡ accepted answer → same_run second first ≡ accepted answer
other_order true first second f g h i c e =
    let (k, v) = (yes_iff first second f g h i c).0 e in (yes_iff second first g f i h (sym c)).1 (sym k, sym v)
other_order false first second f g h i c e =
    (no_iff second first g f i h (sym c)).1 (λ p. (no_iff first second f g h i c).0 e (sym p.0, sym p.1))

either_order :
    (first second : List ℕ) (answer : Bool) → AllBytes first → AllBytes second
    → same_run first second ≡ accepted answer → same_run second first ≡ accepted answer
either_order first second answer bytes bytes' e =
    let (f, g, h, i, c) = (accepted_iff first second bytes bytes').0 (answer, e) in
    other_order answer first second f g h i c e

with_a_third :
    (first second third : List ℕ) → AllBytes first → AllBytes second → AllBytes third
    → same_run first second ≡ accepted true → same_run second third ≡ accepted true → same_run first third ≡ accepted true
with_a_third first second third bytes bytes' bytes'' e e' =
    let (f, g, h, i, c) = (accepted_iff first second bytes bytes').0 (true, e) in
    let (g', k, i', j, c') = (accepted_iff second third bytes' bytes'').0 (true, e') in
    let one : g ≡ g' = checkpoint_of_one second g g' i i' in
    let (key, iv) = (yes_iff first second f g h i c).0 e in
    let (key', iv') = (yes_iff second third g' k i' j c').0 e' in
    (yes_iff first third f k h j (c ∙ ap (λ (x : Four). x.cipher) one ∙ c')).1
    (key ∙ ap (λ (x : Four). x.key) one ∙ key', iv ∙ ap (λ (x : Four). x.iv) one ∙ iv')

-- ── after lists of calls ──

held : {f g : Four} → holds f ≡ holds g → f ≡ g
held e = cc

-- what is written is the checkpoint of the account
of_account : (string : List ℕ) (f : Four) → WrittenAfter f string → Checkpoint string f
of_account string f x =
    let (g, b, h) = written x.calls x.all_given x.area x.lent x.w x.written in
    subst₂ Checkpoint (sym x.string_is) (held (sym b ∙ x.account_is)) h

module _ (first second : List ℕ) (f g : Four) (x : WrittenAfter f first) (y : WrittenAfter g second) where
  after_lists_yes : (same_run first second ≡ accepted true) ↔ (at_position f g.position ≡ g)
  after_lists_yes =
      let h = of_account first f x in
      let i = of_account second g y in (
        (λ e. let c = one_cipher first second f g h i true e in at_other f g c ((yes_iff first second f g h i c).0 e)),
        (λ e.
            (yes_iff first second f g h i (ap (λ (z : Four). z.cipher) e)).1
            (ap (λ (z : Four). z.key) e, ap (λ (z : Four). z.iv) e)),
      )

  after_lists_no : (same_run first second ≡ accepted false) ↔ ((f.cipher ≡ g.cipher) × (at_position f g.position ≡ g → ⊥))
  after_lists_no =
      let h = of_account first f x in
      let i = of_account second g y in (
        (λ e.
            let c = one_cipher first second f g h i false e in
            (c, (no_of_yes _ _ (answered first second f g h i c) after_lists_yes).0 e)),
        (λ p. (no_of_yes _ _ (answered first second f g h i p.0) after_lists_yes).1 p.1),
      )

  after_lists_23 : (same_run first second ≡ refused 23) ↔ (f.cipher ≡ g.cipher → ⊥)
  after_lists_23 = two_ciphers first second f g (of_account first f x) (of_account second g y)

pub same_run_lem : SameRun
unfolding same_run string_check cipher_in contents_in by_code read_groups
same_run_lem = record {
  yes_iff = yes_iff;
  no_iff = no_iff;
  two_ciphers = two_ciphers;
  yes_iff_loaded = λ first second t one bytes bytes'. yes_iff_loaded first second [] t one bytes bytes';
  moves_and_writes = λ first second lent t one bytes bytes' l. moves_and_writes first second lent t one bytes bytes' l;
  yes_iff_writes = λ first second lent t m one bytes bytes'. yes_iff_writes first second lent t one bytes bytes' m;
  no_iff_writes = λ first second lent t m one bytes bytes'. no_iff_writes first second lent t one bytes bytes' m;
  same_iff_writes = λ first second lent t m one bytes bytes'. same_iff_writes first second lent t one bytes bytes' m;
  accepted_iff = accepted_iff;
  refused_iff = refused_exactly;
  never_4 = λ first second e. within_not 4 same_run_numbers (same_run first second) (same_run_within first second) refl e;
  itself = itself;
  either_order = either_order;
  with_a_third = with_a_third;
  after_lists_yes = after_lists_yes;
  after_lists_no = after_lists_no;
  after_lists_23 = after_lists_23;
  no_bytes = λ second. refl;
  code_3 = λ second. refl;
  no_position = λ second. refl;
  position_cut = λ second. refl;
  fifth_group = λ second. refl;
  last_group_0 = λ second. refl;
  past_limit = λ second. refl;
  no_words = λ second. refl;
  second_no_bytes = λ first f h. rw (checkpoint_string first f h);
  second_code_3 = λ first f h. rw (checkpoint_string first f h);
  second_128_no_words = λ first f h. rw (checkpoint_string first f h);
  second_256_no_words = λ first f h. rw (checkpoint_string first f h);
}
