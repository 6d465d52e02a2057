-- The mark of a head is document 02's: spent gives the farthest byte after every list of calls, each call leaves the mark as its rule says, and no
-- answer depends on it. Assumes nothing.
use mathlib.Core.Path.{◌≡◌, refl, sym, ap, ◌∙◌, subst}
use mathlib.Core.List.{List, [], ◌∷◌}
use mathlib.Core.Logic.{◌↔◌}
use Prim.Native.Nat.{ℕ, ◌+◌, ◌≤◌, max}
use native.Mathlib.Omega.{arith}
use lib.Dec.{leb}
use lib.IntN.{ℤ}
use lib.ListN.{length}
use Rattle.cipher.specs.Numbers.{by_code, code_of}
use Rattle.checkpoint.specs.Checkpoint.{length_of}
use Rattle.laws.specs.Result.{Result, refused, accepted, Outcome, outcome, ◌>>=◌, ◌>>◌, refuse◌unless◌}
use Rattle.conditions.specs.Limit.{limit}
use Rattle.conditions.specs.Conditions.{set_up_check, head_check, cipher_check, move_check, recover_check, load_check}
use Rattle.conditions.proofs.Conditions.{head_accepted}
use Rattle.cipher.proofs.Codes.{code_of_lem}
use Rattle.engine.specs.declared.Head.{Head}
use Rattle.engine.specs.Head.{with_mark, mark_after}
use Rattle.volume.specs.Calls.{entries_in}
use Rattle.theorems.proofs.Encipher.{enciphered, volume_some}
use Rattle.engine.specs.Calls.{Engine, engine_of, head_ready, Ciphered, Recovered, Loaded, Counted, set_up, cipher, cipher_call, encipher_volume, encipher_volume_call, move, move_call, write, write_call, recover, recover_call, load, spent, spent_call}
use Rattle.theorems.specs.Account.{Call, AllGiven, Four, IsFour, Account, empty, holds, engine_after, account_after}
use Rattle.theorems.specs.Farthest.{largest, farthest_after}
use Rattle.theorems.specs.HeadMark.{SameButMark, SameMoved, SameCiphered, SameWritten, SameRecovered, HeadMark}
use Rattle.laws.proofs.Results.{no_refusal, accepted_one, after_first, after_line}
use Rattle.theorems.proofs.Writes.{write_shows}
use Rattle.theorems.proofs.Agree.{head_of, ReachedIs, agree, agree_four}

-- ── what a call leaves ──

set_up_starts : (code : ℕ) (key iv area : List ℕ) (e : Engine) → set_up code key iv area ≡ accepted e → e.head.mark ≡ 0
unfolding set_up
set_up_starts code key iv area e q =
    after_line (set_up_check code (length key) (length iv) (length area)) _ q (λ _. no_refusal) λ c e₁ r₁.
    ap (λ (x : Engine). x.head.mark) (sym (accepted_one refl r₁))

load_starts : (string area : List ℕ) (o : Loaded) → load string area ≡ accepted o → o.engine.head.mark ≡ o.engine.head.position
unfolding load
load_starts string area o q =
    after_line (load_check string (length area)) _ q (λ _. no_refusal) λ l e₁ r₁.
    subst (λ (x : Loaded). x.engine.head.mark ≡ x.engine.head.position) (accepted_one refl r₁) refl

move_leaves : (h : Head) (area : List ℕ) (d : ℤ) (e : Engine) → move h area d ≡ accepted e → e.head.mark ≡ h.mark
unfolding move
move_leaves h area d e q =
    after_line (move_check (head_ready h area) h.position d) _ q (λ _. no_refusal) λ m e₁ r₁.
    ap (λ (x : Engine). x.head.mark) (sym (accepted_one refl r₁))

pub cipher_mark : (h : Head) (area bytes : List ℕ) (r : Ciphered) → cipher h area bytes ≡ accepted r
    → r.engine.head.mark ≡ mark_after h.mark (h.position + length bytes) (length bytes)
unfolding cipher
cipher_mark h area bytes r q =
    after_line (cipher_check (head_ready h area) h.position (length bytes)) _ q (λ _. no_refusal) λ c e₁ r₁.
    ap (λ (x : Ciphered). x.engine.head.mark) (sym (accepted_one refl r₁))

cipher_raises : (h : Head) (area bytes : List ℕ) (r : Ciphered) → 1 ≤ length bytes → cipher h area bytes ≡ accepted r
    → r.engine.head.mark ≡ max h.mark (h.position + length bytes)
unfolding mark_after
cipher_raises h area [] r l q = absurd (omega arith)
cipher_raises h area (b ∷ bytes) r l q = cipher_mark h area (b ∷ bytes) r q

no_bytes : (h : Head) (area : List ℕ) (r : Ciphered) → cipher h area [] ≡ accepted r → r.engine.head.mark ≡ h.mark
unfolding mark_after
no_bytes h area r q = cipher_mark h area [] r q

recover_leaves : (h : Head) (area key iv : List ℕ) (r : Recovered) → recover h area key iv ≡ accepted r → r.engine.head ≡ h
unfolding recover
recover_leaves h area key iv r q =
    after_line (recover_check h.code h.position h.word area (length key) (length iv)) _ q (λ _. no_refusal) λ pair e₁ r₁.
    ap (λ (x : Recovered). x.engine.head) (sym (accepted_one refl r₁))

spent_gives : (h : Head) (n : Counted) → spent h ≡ accepted n → n ≡ record { head = h; count = h.mark }
unfolding spent
spent_gives h n q = sym (accepted_one refl (after_first (head_check h.code h.position) _ q))

-- ── spent after a list of calls ──

pub four_spent : (f : Four) (mark : ℕ) → IsFour f → spent (head_of (holds f) mark) ≡ accepted (record { head = head_of (holds f) mark; count = mark })
unfolding spent
four_spent f mark h = rw (head_accepted (code_of f.cipher) f.position f.cipher (code_of_lem f.cipher) h.within)

-- a head that spent accepts is not that of an empty account
spent_four : (a : Account) (mark : ℕ) (n : Counted) → spent (head_of a mark) ≡ accepted n → (f : Four) × (a ≡ holds f)
unfolding spent head_check by_code
spent_four empty mark n e = no_refusal (sym e)
spent_four (holds f) mark n e = (f, refl)

spent_after : (calls : List Call) → AllGiven calls → (area : List ℕ) (n : Counted)
    → spent (engine_after calls area).head ≡ accepted n → n.count ≡ farthest_after calls area
spent_after calls g area n e =
    ap (λ (x : Counted). x.count) (spent_gives (engine_after calls area).head n e)
    ∙ ap (λ (x : Head). x.mark) (agree calls g area).head_is

spent_iff : (calls : List Call) → AllGiven calls → (area : List ℕ)
    → ((n : Counted) × (spent (engine_after calls area).head ≡ accepted n)) ↔ ((f : Four) × (account_after calls area ≡ holds f))
spent_iff calls g area = (
  (λ t. spent_four (account_after calls area) (farthest_after calls area) t.0 (rw (agree calls g area).head_is at t.1)),
  (λ t.
      let h = agree_four calls g area t.0 t.1 in
      rw h.head_is (_, four_spent t.0 (farthest_after calls area) h.tables_are.0)),
)

reached_within : (a : Account) (reached : List ℕ) → ReachedIs a reached → largest reached ≤ limit
unfolding largest
reached_within empty reached e = rw e (omega arith)
reached_within (holds f) reached l = l

-- ── calls from two heads that differ in the mark at most ──

-- P says how what they answer and leave is the same: it is so where a line refuses, and where every line accepts
module _ {B : Type 0} (P : Outcome B → Outcome B → Type 0) (old old' : B) (kept : (n : ℕ) → P (outcome old (refused n)) (outcome old' (refused n))) where
  module _ {A : Type 0} where
    then_alike : (r : Result A) (f g : A → Result B) → ((a : A) → P (outcome old (f a)) (outcome old' (g a))) → P (outcome old (r >>= f)) (outcome old' (r >>= g))
    then_alike (refused n) f g k = kept n
    then_alike (accepted a) f g k = k a

    first_alike : (r : Result A) (p q : Result B) → P (outcome old p) (outcome old' q) → P (outcome old (r >> p)) (outcome old' (r >> q))
    first_alike (refused n) p q k = kept n
    first_alike (accepted a) p q k = k

module _ (h : Head) (mark : ℕ) where
  -- the head with another mark, over the same area
  alike : (area : List ℕ) → SameButMark (engine_of h area) (engine_of (with_mark h mark) area)
  alike area = record { head = refl; area = refl }

  cipher_as_given : (area bytes : List ℕ) → SameCiphered (cipher_call h area bytes) (cipher_call (with_mark h mark) area bytes)
  unfolding cipher_call cipher
  cipher_as_given area bytes =
      then_alike SameCiphered _ _ (λ n. (refl, alike area, refl)) (cipher_check (head_ready h area) h.position (length bytes)) _ _ λ c.
      (refl, record { head = refl; area = refl }, refl)

  encipher_as_given : (area volume : List ℕ) → SameCiphered (encipher_volume_call h area volume) (encipher_volume_call (with_mark h mark) area volume)
  unfolding encipher_volume_call encipher_volume cipher_call
  encipher_as_given area volume =
      first_alike SameCiphered _ _ (λ n. (refl, alike area, refl)) (entries_in volume) _ _ (cipher_as_given area volume)

  move_as_given : (area : List ℕ) (d : ℤ) → SameMoved (move_call h area d) (move_call (with_mark h mark) area d)
  unfolding move_call move
  move_as_given area d =
      then_alike SameMoved _ _ (λ n. (refl, alike area)) (move_check (head_ready h area) h.position d) _ _ λ m. (refl, record { head = refl; area = refl })

  write_as_given : (area lent : List ℕ) → SameWritten (write_call h area lent) (write_call (with_mark h mark) area lent)
  unfolding write_call write
  write_as_given area lent =
      then_alike SameWritten _ _ (λ n. (refl, alike area, refl, refl)) (head_ready h area) _ _ λ c.
      first_alike SameWritten _ _ (λ n. (refl, alike area, refl, refl)) (refuse 8 unless leb (length_of c h.position) (length lent)) _ _
      (refl, alike area, refl, refl)

  recover_as_given : (area key iv : List ℕ) → SameRecovered (recover_call h area key iv) (recover_call (with_mark h mark) area key iv)
  unfolding recover_call recover
  recover_as_given area key iv =
      then_alike SameRecovered _ _ (λ n. (refl, alike area, refl, refl))
      (recover_check h.code h.position h.word area (length key) (length iv)) _ _ λ pair. (refl, alike area, refl, refl)

  spent_as_given : (spent_call h).refusal ≡ (spent_call (with_mark h mark)).refusal
  unfolding spent_call spent
  spent_as_given =
      first_alike (λ (x y : Outcome Counted). x.refusal ≡ y.refusal) _ _ (λ n. refl) (head_check h.code h.position) _ _ refl

pub head_mark : HeadMark
head_mark = record {
  spent_after = spent_after;
  spent_iff = spent_iff;
  at_most = λ calls g area. reached_within (account_after calls area) _ (agree calls g area).reached_is;
  set_up_starts = set_up_starts;
  load_starts = load_starts;
  move_leaves = move_leaves;
  cipher_raises = cipher_raises;
  no_bytes = no_bytes;
  encipher_raises = λ h area volume r e.
      let x = enciphered h area volume r e in cipher_raises h area volume r (volume_some volume x.entries x.is_volume) x.ciphers;
  write_leaves = λ h area lent w e. ap (λ (x : Engine). x.head) (write_shows h area lent w e).1.engine_is;
  recover_leaves = recover_leaves;
  spent_gives = spent_gives;
  cipher_as_given = cipher_as_given;
  encipher_as_given = encipher_as_given;
  move_as_given = move_as_given;
  write_as_given = write_as_given;
  recover_as_given = recover_as_given;
  spent_as_given = spent_as_given;
}
