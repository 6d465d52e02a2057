-- What the conditions of each call show where they accept or refuse with 12, and their outcome where that holds. Assumes nothing.
use mathlib.Core.Path.{◌≡◌, refl, sym, ap, ◌∙◌, subst}
use mathlib.Core.List.{List, [], ◌∷◌}
use Prim.Native.Nat.{ℕ, ◌+◌, ◌*◌, ◌≤◌}
use native.Mathlib.Omega.{arith}
use borrow.Author.Tests.{le-leb, leb-true, eq-eqb, eqb-true}
use lib.Dec.{leb, eqb}
use lib.IntN.{ℤ, pos, negsuc, ◌+ℤ◌}
use lib.ListN.{length}
use Rattle.varint.specs.Number.{Reading, is, ended, malformed, read_number}
use Rattle.cipher.specs.declared.Cipher.{Cipher}
use Rattle.cipher.specs.declared.Cipher.TheVariants.{Hc128, Hc256}
use Rattle.cipher.specs.Numbers.{by_code, code_of, area_length, key_length, iv_length}
use Rattle.cipher.proofs.Codes.{code_of_lem, by_code_lem}
use Rattle.setup.specs.SetUp.{Undone, none, found}
use Rattle.laws.specs.Result.{Result, refused, accepted}
use Rattle.conditions.specs.Limit.{limit}
use Rattle.checkpoint.specs.Checkpoint.{most_groups}
use Rattle.conditions.specs.Conditions.{set_up_check, ready_with_word, head_check, cipher_check, within, end_of, Course, move_check, undo_at, KeyAndIv, found_or12, recover_check, PositionRead, position_read, Contents, load_found, cipher_in, contents_in, load_check}
use Rattle.conditions.proofs.Shows.{Only12, WordShows, word_shows, word_not_12, word_accepted}
use Rattle.laws.proofs.Results.{no_refusal, accepted_one, after_line, after_without, after_unless}

-- ── codes ──

pub no_code_0 : (c : Cipher) → 0 ≡ code_of c → ⊥
no_code_0 Hc128 e = omega arith
no_code_0 Hc256 e = omega arith

-- ── set up ──

pub record SetUpShows (code keySize ivSize size : ℕ) (c : Cipher) : Type 0 where
  pub code_is : code ≡ code_of c
  pub key_long : keySize ≡ key_length c
  pub iv_long : ivSize ≡ iv_length c
  pub sized : size ≡ area_length c

pub set_up_shows : (code k v size : ℕ) (c : Cipher) → set_up_check code k v size ≡ accepted c → SetUpShows code k v size c
unfolding set_up_check
set_up_shows code k v size c e =
    after_without 1 (by_code code) _ e no_refusal λ d e₁ r₁.
    after_unless 2 (eqb k (key_length d)) _ r₁ no_refusal λ e₂ r₂.
    after_unless 3 (eqb v (iv_length d)) _ r₂ no_refusal λ e₃ r₃.
    after_unless 4 (eqb size (area_length d)) _ r₃ no_refusal λ e₄ r₄.
    subst (SetUpShows code k v size) (accepted_one refl r₄)
    (record {
      code_is = by_code_lem code d e₁;
      key_long = eqb-true k (key_length d) e₂;
      iv_long = eqb-true v (iv_length d) e₃;
      sized = eqb-true size (area_length d) e₄;
    })

-- ── a head alone ──

pub head_shows : (code position : ℕ) (c : Cipher) → head_check code position ≡ accepted c → (code ≡ code_of c) × (position ≤ limit)
unfolding head_check
head_shows code position c e =
    after_without 1 (by_code code) _ e no_refusal λ d e₁ r₁.
    after_unless 5 (leb position limit) _ r₁ no_refusal λ e₂ r₂.
    (by_code_lem code d e₁ ∙ ap code_of (accepted_one refl r₂), leb-true position limit e₂)

-- ── cipher and move, by what they begin with ──

pub cipher_shows : (begun : Result Cipher) (position n : ℕ) (c : Cipher) → cipher_check begun position n ≡ accepted c
    → (begun ≡ accepted c) × (position + n ≤ limit)
unfolding cipher_check
cipher_shows begun position n c e =
    after_line begun _ e (λ _. no_refusal) λ d e₁ r₁.
    after_unless 6 (leb (position + n) limit) _ r₁ no_refusal λ e₂ r₂.
    (e₁ ∙ r₂, leb-true (position + n) limit e₂)

within_shows : (z : ℤ) (end : ℕ) → within z ≡ accepted end → (z ≡ pos end) × (end ≤ limit)
within_shows (negsuc n) end e = no_refusal (sym e)
within_shows (pos n) end e =
    after_unless 6 (leb n limit) _ e no_refusal λ e₁ r₁.
    let same : n ≡ end = accepted_one refl r₁ in
    (ap pos same, rw same at (leb-true n limit e₁))

pub record MoveShows (begun : Result Cipher) (position : ℕ) (distance : ℤ) (m : Course) : Type 0 where
  pub begun_is : begun ≡ accepted m.cipher
  pub end_is : pos position +ℤ distance ≡ pos m.end
  pub end_within : m.end ≤ limit

pub move_shows : (begun : Result Cipher) (position : ℕ) (distance : ℤ) (m : Course) → move_check begun position distance ≡ accepted m
    → MoveShows begun position distance m
unfolding move_check end_of
move_shows begun position distance m e =
    after_line begun _ e (λ _. no_refusal) λ c e₁ r₁.
    after_line (end_of position distance) _ r₁ (λ _. no_refusal) λ end e₂ r₂.
    let w = within_shows (pos position +ℤ distance) end e₂ in
    subst (MoveShows begun position distance) (accepted_one refl r₂)
    (record { begun_is = e₁; end_is = w.0; end_within = w.1 })

pub move_accepted : (begun : Result Cipher) (c : Cipher) (position : ℕ) (distance : ℤ) (end : ℕ) → begun ≡ accepted c
    → pos position +ℤ distance ≡ pos end → end ≤ limit → move_check begun position distance ≡ accepted (record { cipher = c; end = end })
unfolding move_check end_of
move_accepted begun c position distance end b e l = rw (b, e, le-leb end limit l)

-- ── recover ──

-- where the conditions before 12 hold, what undoing finds decides, ..
pub recover_finds : (code p w : ℕ) (area : List ℕ) (k v : ℕ) (c : Cipher) → WordShows code p w area c
    → k ≡ key_length c → v ≡ iv_length c
    → recover_check code p w area k v ≡ found_or12 (undo_at c area p)
unfolding recover_check
recover_finds code p w area k v c r kn vn =
    let e = word_accepted c p w area r.is_ready.sized r.is_ready.within_limit r.word_is in
    rw (r.is_ready.code_is, e, eq-eqb k (key_length c) kn, eq-eqb v (iv_length c) vn)

-- .. and they hold where the outcome x is no refusal but 12
pub recover_passed : (code p w : ℕ) (area : List ℕ) (k v : ℕ) {x : Result KeyAndIv} → Only12 x → recover_check code p w area k v ≡ x
    → (c : Cipher) × WordShows code p w area c × (k ≡ key_length c) × (v ≡ iv_length c) × (found_or12 (undo_at c area p) ≡ x)
unfolding recover_check
recover_passed code p w area k v only e =
    after_line (ready_with_word code p w area) _ e (λ n q s. word_not_12 code p w area (s ∙ ap refused (only n q))) λ c e₁ r₁.
    after_unless 2 (eqb k (key_length c)) _ r₁ (λ q. omega (arith, only 2 q)) λ e₂ r₂.
    after_unless 3 (eqb v (iv_length c)) _ r₂ (λ q. omega (arith, only 3 q)) λ e₃ r₃.
    (c, word_shows code p w area c e₁, eqb-true k (key_length c) e₂, eqb-true v (iv_length c) e₃, r₃)

-- ── load ──

pub found_shows : (u : Undone) (pair : KeyAndIv) → found_or12 u ≡ accepted pair → u ≡ found pair.key pair.iv
found_shows none pair e = no_refusal (sym e)
found_shows (found k v) pair e = ap (λ (x : KeyAndIv). found x.key x.iv) (accepted_one refl e)

placed_shows : (f : Reading) (place : PositionRead) → position_read f ≡ accepted place → f ≡ is place.position place.rest
placed_shows (is n rest) place e = ap (λ (x : PositionRead). is x.position x.rest) (accepted_one refl e)
placed_shows ended place e = no_refusal (sym e)
placed_shows malformed place e = no_refusal (sym e)

placed_not_12 : (f : Reading) → position_read f ≡ refused 12 → ⊥
placed_not_12 (is n rest) e = no_refusal e
placed_not_12 ended e = let z : ◌≡◌ {A = ℕ} 9 12 = cc in omega arith
placed_not_12 malformed e = let z : ◌≡◌ {A = ℕ} 10 12 = cc in omega arith

-- the conditions of load before 12, and what it has read
pub record LoadPassed (string : List ℕ) (size : ℕ) (c : Cipher) (p : ℕ) (rest : List ℕ) : Type 0 where
  pub tail : List ℕ
  pub string_is : string ≡ code_of c ∷ tail
  pub sized : size ≡ area_length c
  pub position_read_lem : read_number most_groups tail ≡ is p rest
  pub within_limit : p ≤ limit
  pub rest_long : length rest ≡ 4 * area_length c

-- where they hold, what undoing finds decides, ..
pub load_finds : (string : List ℕ) (size : ℕ) (c : Cipher) (p : ℕ) (rest : List ℕ) → LoadPassed string size c p rest
    → load_check string size ≡ load_found c p rest
unfolding load_check cipher_in contents_in
load_finds string size c p rest h =
    rw (
      h.string_is,
      code_of_lem c,
      eq-eqb size (area_length c) h.sized,
      h.position_read_lem,
      le-leb p limit h.within_limit,
      eq-eqb (length rest) (4 * area_length c) h.rest_long,
    )

-- .. and they hold where the outcome x is no refusal but 12
pub load_passed : (string : List ℕ) (size : ℕ) {x : Result Contents} → Only12 x → load_check string size ≡ x
    → (c : Cipher) × (p : ℕ) × (rest : List ℕ) × LoadPassed string size c p rest × (load_found c p rest ≡ x)
unfolding load_check cipher_in contents_in
load_passed [] size only e = absurd (omega (arith, only 9 (sym e)))
load_passed (b ∷ tail) size only e =
    let read = read_number most_groups tail in
    after_without 1 (by_code b) _ e (λ q. omega (arith, only 1 q)) λ c e₁ r₁.
    after_unless 4 (eqb size (area_length c)) _ r₁ (λ q. omega (arith, only 4 q)) λ e₂ r₂.
    after_line (position_read read) _ r₂ (λ n q s. placed_not_12 read (s ∙ ap refused (only n q))) λ place e₃ r₃.
    after_unless 5 (leb place.position limit) _ r₃ (λ q. omega (arith, only 5 q)) λ e₄ r₄.
    after_unless 11 (eqb (length place.rest) (4 * area_length c)) _ r₄ (λ q. omega (arith, only 11 q)) λ e₅ r₅. (
      c,
      place.position,
      place.rest,
      record {
        tail = tail;
        string_is = ap (λ (x : ℕ). x ∷ tail) (by_code_lem b c e₁);
        sized = eqb-true size (area_length c) e₂;
        position_read_lem = placed_shows read place e₃;
        within_limit = leb-true place.position limit e₄;
        rest_long = eqb-true (length place.rest) (4 * area_length c) e₅;
      },
      r₅,
    )
