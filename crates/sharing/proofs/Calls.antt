-- What a call with a share account leaves, by the outcome of its conditions. Assumes nothing.
use mathlib.Core.Path.{◌≡◌, refl, sym, ap, ◌∙◌}
use mathlib.Core.Bool.{Bool, true, false}
use mathlib.Core.List.{List, [], ◌∷◌}
use Prim.Native.Nat.{ℕ, suc, ◌+◌, ◌-◌, ◌≤◌, ◌<◌}
use native.Mathlib.Omega.{arith}
use borrow.Author.Tests.{le-leb, lt-leb, leb-true}
use lib.Dec.{eqb, leb}
use lib.ListN.{length}
use Rattle.cipher.specs.declared.Cipher.{Cipher}
use Rattle.cipher.specs.Numbers.{by_code, area_length}
use Rattle.steps.specs.Steps.{word_at}
use Rattle.laws.specs.Result.{Result, refused, accepted, Outcome, outcome, ◌>>◌, refuse◌unless◌}
use Rattle.laws.proofs.Same.{not-false, not-true}
use Rattle.laws.proofs.Results.{no_refusal, refused_iff, after_line, after_without, after_unless}
use Rattle.conditions.specs.Limit.{limit}
use Rattle.conditions.specs.Conditions.{ready, ready_with_word, cipher_check}
use Rattle.engine.specs.declared.Head.{Head}
use Rattle.engine.specs.Calls.{engine_of, head_ready, Ciphered, cipher, cipher_call}
use Rattle.sharing.specs.declared.ShareAccount.{ShareAccount}
use Rattle.sharing.specs.Shares.{is_closed, is_open, closed_account, share_of, drawn_from}
use Rattle.sharing.specs.Calls.{while_closed, open_sharing, open_sharing_call, share_check, draw_check, draw, draw_call, close_sharing}

-- ── the engine's calls with a share account ──

module _ {A : Type 0} (s : ShareAccount) (old : A) (r : Result A) where
  -- while it is open, 21 and what was there
  pub stopped : is_open s ≡ true → record { refusal = 21; value = old } ≡ outcome old (while_closed s r)
  stopped z = rw (not-true (is_closed s) z)

  -- while it is closed, the engine's own call
  pub passed : is_open s ≡ false → outcome old r ≡ outcome old (while_closed s r)
  passed z = rw (not-false (is_closed s) z)

-- ── closing ──

module _ (s : ShareAccount) where
  pub close_refused : is_open s ≡ false → refused 21 ≡ close_sharing s
  unfolding close_sharing
  close_refused z = rw z

  pub close_done : is_open s ≡ true → accepted closed_account ≡ close_sharing s
  unfolding close_sharing
  close_done z = rw z

-- ── opening ──

-- the conditions of a cipher call of no bytes are those that it begins with: the position is within the limit
module _ (begun : Result Cipher) (position : ℕ) where
  pub check_refused : (n k : ℕ) → begun ≡ refused k → cipher_check begun position n ≡ refused k
  unfolding cipher_check
  check_refused n k e = rw e

  module _ (c : Cipher) (e : begun ≡ accepted c) where
    pub check_past : (n : ℕ) → limit < position + n → cipher_check begun position n ≡ refused 6
    unfolding cipher_check
    check_past n l = rw (e, lt-leb (position + n) limit l)

    pub check_passed : (n : ℕ) → position + n ≤ limit → cipher_check begun position n ≡ accepted c
    unfolding cipher_check
    check_passed n l = rw (e, le-leb (position + n) limit l)

not_below : {m n : ℕ} → (m ≤ n → ⊥) → n < m
not_below {m} {n} h = omega arith

module _ (s : ShareAccount) (h : Head) (area : List ℕ) (share0 share1 share2 share3 : ℕ) where
  pub open_stopped : is_open s ≡ true
      → record { refusal = 21; value = record { account = s; engine = engine_of h area } } ≡ open_sharing_call s h area share0 share1 share2 share3
  unfolding open_sharing_call open_sharing
  open_stopped z = rw (not-true (is_closed s) z)

  module _ (z : is_open s ≡ false) where
    pub open_refused : (n : ℕ) → head_ready h area ≡ refused n
        → record { refusal = n; value = record { account = s; engine = engine_of h area } } ≡ open_sharing_call s h area share0 share1 share2 share3
    unfolding open_sharing_call open_sharing
    open_refused n e = rw (not-false (is_closed s) z, check_refused (head_ready h area) h.position 0 n e)

    module _ (c : Cipher) (e : head_ready h area ≡ accepted c) (l : h.position ≤ limit) where
      pub open_beyond : (share0 + share1 + share2 + share3 ≤ limit - h.position → ⊥)
          → record { refusal = 20; value = record { account = s; engine = engine_of h area } } ≡ open_sharing_call s h area share0 share1 share2 share3
      unfolding open_sharing_call open_sharing
      open_beyond b = rw (not-false (is_closed s) z, check_passed (head_ready h area) h.position c e 0 (omega arith), lt-leb (share0 + share1 + share2 + share3) (limit - h.position) (not_below b))

      pub open_done : (common : ℕ) → share0 + share1 + share2 + share3 ≤ limit - h.position
          → common ≡ limit - h.position - (share0 + share1 + share2 + share3)
          → record {
            refusal = 0;
            value = record {
              account = record { opened = 1; shares = share0 ∷ share1 ∷ share2 ∷ share3 ∷ []; common = common };
              engine = engine_of h area;
            };
          }
          ≡ open_sharing_call s h area share0 share1 share2 share3
      unfolding open_sharing_call open_sharing
      open_done common b q = rw (not-false (is_closed s) z, check_passed (head_ready h area) h.position c e 0 (omega arith), le-leb (share0 + share1 + share2 + share3) (limit - h.position) b, q)

-- ── draw ──

-- whether the share account gives a line so many bytes
module _ (s : ShareAccount) (line n : ℕ) where
  pub line_over : 3 < line → refused 19 ≡ share_check s line n
  unfolding share_check
  line_over l = rw (lt-leb line 3 l)

  module _ (l : line ≤ 3) where
    pub share_short : s.common < n - share_of s line → refused 20 ≡ share_check s line n
    unfolding share_check
    share_short m = rw (le-leb line 3 l, lt-leb n (share_of s line + s.common) (omega arith))

    pub share_gives : n - share_of s line ≤ s.common → accepted tt ≡ share_check s line n
    unfolding share_check
    share_gives m = rw (le-leb line 3 l, le-leb n (share_of s line + s.common) (omega arith))

  -- where it gives them
  both : (t u : Bool) → accepted (tt {0}) ≡ ((refuse 19 unless t) >> (refuse 20 unless u)) → (t ≡ true) × (u ≡ true)
  both true true e = (refl, refl)
  both true false e = no_refusal e
  both false u e = no_refusal e

  pub given : accepted tt ≡ share_check s line n → (line ≤ 3) × (n ≤ share_of s line + s.common)
  unfolding share_check
  given e =
      let t = both (leb line 3) (leb n (share_of s line + s.common)) e in
      (leb-true line 3 t.0, leb-true n (share_of s line + s.common) t.1)

-- 0 is no refusal of a cipher call
other : (n : ℕ) → ◌≡◌ {A = Result Cipher} (refused 0) (refused (suc n)) → ⊥
other n q = let z : 0 ≡ suc n = cc in omega arith

ready_not_0 : (h : Head) (area : List ℕ) → head_ready h area ≡ refused 0 → ⊥
unfolding ready_with_word ready
ready_not_0 h area e =
    after_line (ready h.code h.position (length area)) _ e
    (λ n x y.
    after_without 1 (by_code h.code) _ (y ∙ sym x) (other 0) λ c e₁ r₁.
    after_unless 4 (eqb (length area) (area_length c)) _ r₁ (other 3) λ e₂ r₂.
    after_unless 5 (leb h.position limit) _ r₂ (other 4) λ e₃ r₃. no_refusal r₃)
    λ c e₁ r₁.
    after_unless 13 (eqb h.word (word_at c area h.position)) _ r₁ (other 12) λ e₂ r₂. no_refusal r₂

check_not_0 : (h : Head) (area : List ℕ) (n : ℕ) → cipher_check (head_ready h area) h.position n ≡ refused 0 → ⊥
unfolding cipher_check
check_not_0 h area n e =
    after_line (head_ready h area) _ e (λ m x y. ready_not_0 h area (y ∙ sym x)) λ c e₁ r₁.
    after_unless 6 (leb (h.position + n) limit) _ r₁ (other 5) λ e₂ r₂. no_refusal r₂

module _ (s : ShareAccount) (h : Head) (area : List ℕ) (line : ℕ) (bytes : List ℕ) where
  pub draw_closed : is_open s ≡ false
      → record { refusal = 21; value = record { account = s; engine = engine_of h area; bytes = bytes } } ≡ draw_call s h area line bytes
  unfolding draw_call draw draw_check
  draw_closed z = rw z

  module _ (z : is_open s ≡ true) where
    -- the conditions of the cipher call come first, ..
    pub draw_before : (n : ℕ) → refused n ≡ cipher_check (head_ready h area) h.position (length bytes)
        → record { refusal = n; value = record { account = s; engine = engine_of h area; bytes = bytes } } ≡ draw_call s h area line bytes
    unfolding draw_call draw draw_check cipher
    draw_before n e = rw (z, ← e)

    -- .. then those of the share account
    pub draw_beyond : (n : ℕ) (c : Cipher) → accepted c ≡ cipher_check (head_ready h area) h.position (length bytes)
        → refused n ≡ share_check s line (length bytes)
        → record { refusal = n; value = record { account = s; engine = engine_of h area; bytes = bytes } } ≡ draw_call s h area line bytes
    unfolding draw_call draw draw_check cipher
    draw_beyond n c e f = rw (z, ← e, ← f)

    -- where the share account gives the line its bytes, the draw is as the cipher call: refused as it is, ..
    module _ (g : accepted tt ≡ share_check s line (length bytes)) (refusal : ℕ) (new : Head) (s' bs : List ℕ)
        (e : record { refusal = refusal; value = record { engine = engine_of new s'; bytes = bs } } ≡ cipher_call h area bytes) where
      refused_by : (r : Result Ciphered) → cipher h area bytes ≡ r → (refusal ≡ 0 → ⊥)
          → record { refusal = refusal; value = record { account = s; engine = engine_of h s'; bytes = bs } } ≡ draw_call s h area line bytes
      unfolding draw_call draw draw_check cipher_call
      refused_by (refused n) q y =
          let o = rw q at e in
          rw (
            z,
            q,
            ap (λ (x : Outcome Ciphered). x.refusal) o,
            ap (λ (x : Outcome Ciphered). x.value.engine.area) o,
            ap (λ (x : Outcome Ciphered). x.value.bytes) o,
          )
      refused_by (accepted r) q y = absurd (y (ap (λ (x : Outcome Ciphered). x.refusal) (rw q at e)))

      pub draw_refused : (refusal ≡ 0 → ⊥)
          → record { refusal = refusal; value = record { account = s; engine = engine_of h s'; bytes = bs } } ≡ draw_call s h area line bytes
      draw_refused = refused_by (cipher h area bytes) refl

      -- .. and leaves what it leaves
      done_by : (r : Result Ciphered) → cipher h area bytes ≡ r → refusal ≡ 0 → (account : ShareAccount) → account ≡ drawn_from s line (length bytes)
          → record { refusal = 0; value = record { account = account; engine = engine_of new s'; bytes = bs } } ≡ draw_call s h area line bytes
      unfolding draw_call draw draw_check cipher_call cipher
      done_by (refused n) q y account a =
          let m : n ≡ 0 = sym (ap (λ (x : Outcome Ciphered). x.refusal) (rw q at e)) ∙ y in
          absurd (check_not_0 h area (length bytes) ((refused_iff _ (cipher_check (head_ready h area) h.position (length bytes)) 0).0 (rw m at q)))
      done_by (accepted r) q y account a =
          let o : record { engine = engine_of new s'; bytes = bs } ≡ r = ap (λ (x : Outcome Ciphered). x.value) (rw q at e) in
          rw (z, q, ← g, a, sym o)

      pub draw_done : refusal ≡ 0 → (account : ShareAccount) → account ≡ drawn_from s line (length bytes)
          → record { refusal = 0; value = record { account = account; engine = engine_of new s'; bytes = bs } } ≡ draw_call s h area line bytes
      draw_done = done_by (cipher h area bytes) refl
