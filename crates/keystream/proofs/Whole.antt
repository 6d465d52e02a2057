-- The three parts of a cipher call, the end of a word, whole words and the beginning of a word, make the whole. Assumes nothing.
use mathlib.Core.Path.{◌≡◌, refl, sym, ap, ◌∙◌}
use mathlib.Core.Logic.{⊎_elim}
use mathlib.Core.List.{List}
use Prim.Native.Nat.{ℕ, suc, ◌+◌, ◌-◌, ◌*◌, ◌/◌, ◌%◌, ◌≤◌, ◌<◌}
use native.Mathlib.Nat.{zero-add}
use native.Mathlib.Omega.{arith}
use lib.ListN.{length}
use Rattle.laws.specs.Iterate.{forward}
use Rattle.laws.proofs.Iterate.{forward_none, forward_more, forward_add}
use Rattle.laws.proofs.Lists.{below_or_not}
use Rattle.word.specs.Bytes.{byte}
use Rattle.cipher.specs.declared.Cipher.{Cipher}
use Rattle.tables.specs.Step.{step, output}
use Rattle.steps.specs.Steps.{steps, steps_at, last_output, word_at}
use Rattle.steps.proofs.Moved.{steps_up}
use Rattle.steps.proofs.Words.{last_taken}
use Rattle.keystream.specs.Keystream.{tables_after, ciphered, CipheredFrom}
use Rattle.keystream.specs.Stores.{xor_part, xor_word, in_word}
use Rattle.keystream.proofs.Positions.{tables_after_lem}
use Rattle.keystream.proofs.Xored.{Xored, xored_none, xored_part, xored_words}
use Rattle.keystream.proofs.Ciphered.{key_from, key_from_lem, all_done}

-- ---- of l bytes from position p, a end the word that p is inside, 4 n are whole words and t begin a word

module _ (p l : ℕ) where
  pub none_in_word : p % 4 ≡ 0 → in_word p l ≡ 0
  none_in_word e = omega arith

  in_word_le : in_word p l ≤ l
  in_word_le = omega arith

  in_word_lem : (k : ℕ) → k < in_word p l → (p % 4 + k < 4) × (suc (p / 4) - steps_at p ≡ 0) × (steps_at p ≡ p / 4 + 1)
  in_word_lem k h = omega arith

  -- after the end of a word a word begins, unless no bytes are left
  aligned : in_word p l < l → p + in_word p l ≡ 4 * steps_at p
  aligned h = omega arith

  same_word : l ≤ in_word p l → steps_at (p + l) ≡ steps_at p
  same_word h = omega arith

steps_of_sum : (t m : ℕ) → steps_at (t + 4 * m) ≡ m + steps_at t
steps_of_sum t m = omega arith

sum_left : (q n x y : ℕ) → n + x ≡ y - q → q ≤ y → q + n + x ≡ y
sum_left q n x y e l = omega arith

less_left : (q n x : ℕ) → q + n + x - q ≡ n + x
less_left q n x = omega arith

module _ (p l a n t : ℕ) (ea : a ≡ in_word p l) (en : n ≡ (l - a) / 4) (et : t ≡ l - (a + 4 * n)) where
  words_fit : a + 4 * n ≤ l
  words_fit = let h = in_word_le p l in omega arith

  all_fit : a + 4 * n + t ≡ l
  all_fit = let h = words_fit in omega arith

  word_begins : a < l → p + a ≡ 4 * steps_at p
  word_begins h = rw ea (aligned p l (rw ea at h))

  steps_where_a_word_begins : (q : ℕ) → q ≡ steps_at p → p + a ≡ 4 * q → n + steps_at t ≡ steps_at (p + l) - q
  steps_where_a_word_begins q i e =
      let h = all_fit in
      let z : p + l ≡ t + 4 * (q + n) = omega arith in
      rw (z, steps_of_sum t (q + n)) (sym (less_left q n (steps_at t)))

  steps_inside_a_word : l ≤ a → n + steps_at t ≡ steps_at (p + l) - steps_at p
  steps_inside_a_word h =
      let z : n ≡ 0 = omega arith in
      let y : t ≡ 0 = omega arith in
      let x : steps_at p - steps_at p ≡ 0 = omega arith in
      rw (same_word p l (rw ea at h), x, z, y)

  steps_taken : n + steps_at t ≡ steps_at (p + l) - steps_at p
  steps_taken = ⊎_elim (λ h. steps_where_a_word_begins (steps_at p) refl (word_begins h)) (λ h. steps_inside_a_word h) (below_or_not a l)

-- ---- the bytes and the tables

module _ (c : Cipher) (s bs : List ℕ) (p a n t w : ℕ) (ew : w ≡ word_at c s p)
    (ea : a ≡ in_word p (length bs)) (en : n ≡ (length bs - a) / 4) (et : t ≡ length bs - (a + 4 * n)) where
  end_of_word : Xored (key_from c s p) bs (xor_part 0 a w (p % 4) bs) a
  end_of_word =
      rw zero-add at
      (xored_part (key_from c s p) bs bs 0 a w (p % 4)
      (rw (zero-add a, ea) (in_word_le p (length bs)))
      (λ k b.
      let h = in_word_lem p (length bs) k (rw ea at b) in
      ap (byte (p % 4 + k)) (ew ∙ last_taken c s (p / 4) (steps_at p) h.2)
      ∙ sym (ap (λ (z : ℕ). byte (p % 4 + k) (output c (steps c s (steps_at p) z) (p / 4))) h.1 ∙ ap (λ (z : List ℕ). byte (p % 4 + k) (output c z (p / 4))) (forward_none (step c) s (steps_at p)))
      ∙ key_from_lem c s p (0 + k) (p / 4) (p % 4 + k) (omega arith) h.0)
      (xored_none (key_from c s p) bs))

  whole_words : (out : List ℕ) → Xored (key_from c s p) bs out a → Xored (key_from c s p) bs (forward (xor_word (step c) (output c) s (steps_at p) a) out 0 n) (a + 4 * n)
  whole_words out v =
      xored_words (key_from c s p) bs out a n (λ k. output c (steps c s (steps_at p) (k + 1)) (steps_at p + k))
      (words_fit p (length bs) a n t ea en et)
      (λ k b r h.
      let f = words_fit p (length bs) a n t ea en et in
      let w = word_begins p (length bs) a n t ea en et (omega arith) in
      let z : suc (steps_at p + k) - steps_at p ≡ k + 1 = omega arith in
      ap (λ (z : ℕ). byte r (output c (steps c s (steps_at p) z) (steps_at p + k))) (sym z)
      ∙ key_from_lem c s p (a + 4 * k + r) (steps_at p + k) r (omega arith) h)
      v

  beginning_of_word : (out : List ℕ) → Xored (key_from c s p) bs out (a + 4 * n)
      → Xored (key_from c s p) bs (xor_part (a + 4 * n) t (output c (step c (steps c s (steps_at p) n) (steps_at p + n)) (steps_at p + n)) 0 out) (length bs)
  beginning_of_word out v =
      let f = all_fit p (length bs) a n t ea en et in
      rw f at
      (xored_part (key_from c s p) bs out (a + 4 * n) t (output c (step c (steps c s (steps_at p) n) (steps_at p + n)) (steps_at p + n)) 0 (omega arith)
      (λ k b.
      let w = word_begins p (length bs) a n t ea en et (omega arith) in
      let z : suc (steps_at p + n) - steps_at p ≡ n + 1 = omega arith in
      rw zero-add
      (ap (λ (x : List ℕ). byte k (output c x (steps_at p + n))) (sym (forward_more (step c) s (steps_at p) n))
      ∙ ap (λ (z : ℕ). byte k (output c (steps c s (steps_at p) z) (steps_at p + n))) (sym z)
      ∙ key_from_lem c s p (a + 4 * n + k) (steps_at p + n) k (omega arith) (omega arith)))
      v)

  -- the call's bytes, part by part
  whole_bytes : (b₁ b₂ b₃ : List ℕ) → b₁ ≡ xor_part 0 a w (p % 4) bs → b₂ ≡ forward (xor_word (step c) (output c) s (steps_at p) a) b₁ 0 n
      → b₃ ≡ xor_part (a + 4 * n) t (output c (step c (steps c s (steps_at p) n) (steps_at p + n)) (steps_at p + n)) 0 b₂ → b₃ ≡ ciphered c s p bs
  whole_bytes b₁ b₂ b₃ e₁ e₂ e₃ = e₃ ∙ rw (e₂, e₁) (all_done c s p bs _ (beginning_of_word _ (whole_words _ end_of_word)))

  -- the call's tables
  whole_tables : steps c (steps c s (steps_at p) n) (steps_at p + n) (steps_at t) ≡ tables_after c s p (length bs)
  whole_tables =
      forward_add (step c) s (steps_at p) n (steps_at t)
      ∙ ap (steps c s (steps_at p)) (steps_taken p (length bs) a n t ea en et)
      ∙ sym (tables_after_lem c s p (length bs))

  -- the steps that the tables have taken then
  whole_steps : steps_at p + n + steps_at t ≡ steps_at (p + length bs)
  whole_steps = sum_left (steps_at p) n (steps_at t) _ (steps_taken p (length bs) a n t ea en et) (steps_up p (length bs))

-- what the calls of `xor_keystream` say of the area s, the word w and the bytes bs at entry, of what they leave, and of a, i, n and t
pub record Parts (c : Cipher) (s bs : List ℕ) (p w a i n t : ℕ) (b₁ s₂ b₂ s₃ b₃ : List ℕ) (last : ℕ) : Type 0 where
  pub word : w ≡ word_at c s p
  pub ended : a ≡ in_word p (length bs)
  pub ended_bytes : b₁ ≡ xor_part 0 (in_word p (length bs)) w (p % 4) bs
  pub ended_sized : length b₁ ≡ length bs
  pub first : i ≡ steps_at p
  pub count : n ≡ (length b₁ - a) / 4
  pub rest : t ≡ (length b₁ - a) % 4
  pub words_tables : s₂ ≡ steps c s i n
  pub words_bytes : b₂ ≡ forward (xor_word (step c) (output c) s i a) b₁ 0 n
  pub words_sized : length b₂ ≡ length b₁
  pub begun_tables : s₃ ≡ steps c s₂ (i + n) (steps_at t)
  pub begun_bytes : b₃ ≡ xor_part (length b₂ - t) t (output c (step c s₂ (i + n)) (i + n)) 0 b₂
  pub begun_word : last ≡ last_output c s₃ (i + n + steps_at t)

rest_of : (l a n t : ℕ) → a ≤ l → n ≡ (l - a) / 4 → t ≡ (l - a) % 4 → (t ≡ l - (a + 4 * n)) × (l - t ≡ a + 4 * n)
rest_of l a n t h e f = omega arith

module _ {c : Cipher} {s bs : List ℕ} {p w a i n t : ℕ} {b₁ s₂ b₂ s₃ b₃ : List ℕ} {last : ℕ} (v : Parts c s bs p w a i n t b₁ s₂ b₂ s₃ b₃ last) where
  count : n ≡ (length bs - a) / 4
  count = v.count ∙ ap (λ (z : ℕ). (z - a) / 4) v.ended_sized

  rest : (t ≡ length bs - (a + 4 * n)) × (length bs - t ≡ a + 4 * n)
  rest =
      rest_of (length bs) a n t (rw v.ended (in_word_le p (length bs))) count
      (v.rest ∙ ap (λ (z : ℕ). (z - a) % 4) v.ended_sized)

  begins_at : length b₂ - t ≡ a + 4 * n
  begins_at = ap (λ (z : ℕ). z - t) (v.words_sized ∙ v.ended_sized) ∙ rest.1

  pub whole : CipheredFrom c s p bs s₃ b₃ last
  whole = (
    v.begun_tables ∙ rw (v.words_tables, v.first) (whole_tables c s bs p a n t w v.word v.ended count rest.0),
    whole_bytes c s bs p a n t w v.word v.ended count rest.0 b₁ b₂ b₃
        (v.ended_bytes ∙ ap (λ (z : ℕ). xor_part 0 z w (p % 4) bs) (sym v.ended))
        (rw v.first at v.words_bytes)
        (v.begun_bytes ∙ rw (v.words_tables, begins_at, v.first)),
    v.begun_word ∙ ap (last_output c s₃) (rw v.first (whole_steps c s bs p a n t w v.word v.ended count rest.0)),
  )
