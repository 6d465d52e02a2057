-- The words of some steps, and then those of more, are the words of all of them; and steps that are the same under other numbers have the same words.
-- f takes the numbered steps, and o gives the output of a step from the area after it. Assumes nothing.
use mathlib.Core.Path.{◌≡◌, refl, sym, ap, ap₂, ◌∙◌}
use mathlib.Core.List.{List}
use Prim.Native.Nat.{ℕ, zero, suc, ◌+◌, ◌*◌, ◌-◌, ◌≤◌, ◌<◌}
use native.Mathlib.Numerals.{add-one}
use native.Mathlib.Omega.{arith}
use lib.ListN.{length}
use Rattle.laws.specs.Iterate.{forward}
use Rattle.laws.proofs.Iterate.{forward_add, forward_same, forward_same_below}
use Rattle.laws.proofs.Loops.{Forward, forward_starts, forward_turns, forward_turns_by, forward_ends}
use Rattle.steps.specs.Steps.{steps_at}
use Rattle.keystream.specs.Stores.{xor_part, xor_word, last_of, Worded, Begun}

pub same_xor : (bs : List ℕ) {a b w v : ℕ} → a ≡ b → w ≡ v → xor_part a 4 w 0 bs ≡ xor_part b 4 v 0 bs
same_xor bs e f = rw (e, f) refl

output_of_same : (o : List ℕ → ℕ → ℕ) {s t : List ℕ} {i m : ℕ} → s ≡ t → i ≡ m → o s i ≡ o t m
output_of_same o e f = rw (e, f) refl

-- ---- the last output

pub last_none : (o : List ℕ → ℕ → ℕ) (w : ℕ) (s : List ℕ) (i : ℕ) → last_of o w s i 0 ≡ w
unfolding last_of
last_none o w s i = refl

pub last_more : (o : List ℕ → ℕ → ℕ) (w : ℕ) (s : List ℕ) (i n : ℕ) → last_of o w s i (n + 1) ≡ o s (i + n)
unfolding last_of
last_more o w s i n = rw add-one refl

-- that of one step or more, counted from another step
last_later : (o : List ℕ → ℕ → ℕ) (w v : ℕ) (s : List ℕ) (i k r : ℕ) → 0 < r → last_of o v s (i + k) r ≡ last_of o w s i (k + r)
last_later o w v s i k r l =
    let a : r ≡ r - 1 + 1 = omega arith in
    let b : k + r ≡ k + (r - 1) + 1 = omega arith in
    let d : i + k + (r - 1) ≡ i + (k + (r - 1)) = omega arith in
    ap (last_of o v s (i + k)) a ∙ last_more o v s (i + k) (r - 1) ∙ ap (o s) d ∙ sym (ap (last_of o w s i) b ∙ last_more o w s i (k + (r - 1)))

-- ---- more words

module _ (f : List ℕ → ℕ → List ℕ) (o : List ℕ → ℕ → ℕ) where
  -- the words from step i + k on, where k are done
  later_words : (s : List ℕ) (i start k m : ℕ) (bs : List ℕ)
      → forward (xor_word f o (forward f s i k) (i + k) (start + 4 * k)) bs 0 m ≡ forward (xor_word f o s i start) bs k m
  later_words s i start k m bs =
      forward_same _ _ bs 0 k m
      (λ t j.
      let steps_sum : k + (0 + j + 1) ≡ k + j + 1 = omega arith in
      same_xor t (omega arith) (output_of_same o (forward_add f s i k (0 + j + 1) ∙ ap (forward f s i) steps_sum) (omega arith)))

  -- what a loop keeps that takes the steps i to i + n - 1 and does their words: k steps are taken and k words done, and w is the last output, or w₀
  -- where k is 0
  module _ (s₀ bs₀ : List ℕ) (i start n w₀ : ℕ) where
    abbrev pub Words : List ℕ → List ℕ → ℕ → ℕ → Type 0
    Words s bs w k = Forward f s₀ s i k n × Forward (xor_word f o s₀ i start) bs₀ bs 0 k n × (w ≡ last_of o w₀ s i k)

    pub words_start : Words s₀ bs₀ w₀ 0
    words_start = (forward_starts _ _ _ _, forward_starts _ _ 0 _, sym (last_none o w₀ s₀ i))

    pub words_turn : {s t bs bs' : List ℕ} {k v w : ℕ} → Words s bs v k → k < n → t ≡ f s (i + k) → length t ≡ length s → w ≡ o t (i + k)
        → bs' ≡ xor_part (start + 4 * k) 4 w 0 bs → length bs' ≡ length bs → Words t bs' w (k + 1)
    words_turn {t = t} {bs = bs} {k = k} v l e z g h y =
        let taken = forward_turns _ _ _ _ _ v.0 l refl e z in
        let word = g ∙ ap (λ (s : List ℕ). o s (i + k)) taken.done in
        (taken, forward_turns _ _ 0 _ k v.1 l (omega arith) (h ∙ same_xor bs refl word) y, g ∙ sym (last_more o w₀ t i k))

    pub words_turn_by : {s t bs bs' : List ℕ} {k v w : ℕ} (r : ℕ) → Words s bs v k → 0 < r → r ≤ n - k → Worded f o s bs (i + k) (start + 4 * k) r v t bs' w
        → length t ≡ length s → length bs' ≡ length bs → Words t bs' w (k + r)
    words_turn_by {t = t} {bs = bs} {k = k} {v = u} r v p l e z y =
        let from_start = ap (λ (s : List ℕ). forward (xor_word f o s (i + k) (start + 4 * k)) bs 0 r) v.0.done in (
          forward_turns_by _ _ _ _ _ _ v.0 l refl e.0 z,
          forward_turns_by _ _ 0 _ k _ v.1 l (omega arith) (e.1 ∙ from_start ∙ later_words s₀ i start k r bs) y,
          e.2 ∙ last_later o w₀ u t i k r p,
        )

    pub words_end : {s bs : List ℕ} {k w : ℕ} → Words s bs w k → n ≤ k → Worded f o s₀ bs₀ i start n w₀ s bs w
    words_end {s = s} {k = k} v l =
        let e : k ≡ n = omega (arith, v.0.within) in
        (forward_ends _ _ _ _ v.0 l, forward_ends _ _ 0 _ v.1 l, v.2 ∙ ap (last_of o w₀ s i) e)

-- ---- the same steps under other numbers

last_same : (o q : List ℕ → ℕ → ℕ) (w : ℕ) (s : List ℕ) (i m n : ℕ) → ((t : List ℕ) (k : ℕ) → k < n → o t (i + k) ≡ q t (m + k)) → last_of o w s i n ≡ last_of q w s m n
unfolding last_of
last_same o q w s i m zero e = refl
last_same o q w s i m (suc n) e = e s n (omega arith)

module _ (f g : List ℕ → ℕ → List ℕ) (o q : List ℕ → ℕ → ℕ) (i m n : ℕ)
    (e : (t : List ℕ) (k : ℕ) → k < n → f t (i + k) ≡ g t (m + k)) (h : (t : List ℕ) (k : ℕ) → k < n → o t (i + k) ≡ q t (m + k)) where
  pub worded_same : (s bs : List ℕ) (start w : ℕ) {t bs' : List ℕ} {last : ℕ} → Worded f o s bs i start n w t bs' last → Worded g q s bs m start n w t bs' last
  worded_same s bs start w {t} v = (
    v.0 ∙ forward_same_below f g s i m n e,
    v.1
        ∙ forward_same_below _ _ bs 0 0 n
        (λ b k l.
        same_xor b refl
        (ap (λ (x : ℕ). o (forward f s i (0 + k + 1)) x) (omega arith)
        ∙ h _ k l
        ∙ ap₂ (λ (x : List ℕ) (y : ℕ). q x y) (forward_same_below f g s i m (0 + k + 1) (λ t j b. e t j (omega arith))) (omega arith))),
    v.2 ∙ last_same o q w t i m n h,
  )

-- the beginning of a word takes one step at the most
module _ (f g : List ℕ → ℕ → List ℕ) (o q : List ℕ → ℕ → ℕ) (i m : ℕ) (e : (t : List ℕ) → f t i ≡ g t m) (h : (t : List ℕ) → o t i ≡ q t m) where
  pub begun_same : (s bs : List ℕ) (n w : ℕ) {t bs' : List ℕ} {last : ℕ} → n < 4 → Begun f o s bs i n w t bs' last → Begun g q s bs m n w t bs' last
  begun_same s bs n w {t} l v = (
    v.0 ∙ forward_same_below f g s i m (steps_at n) (λ t k b. rw (first i k b, first m k b) (e t)),
    v.1 ∙ ap (λ (x : ℕ). xor_part (length bs - n) n x 0 bs) (h (f s i) ∙ ap (λ (x : List ℕ). q x m) (e s)),
    v.2 ∙ last_same o q w t i m (steps_at n) (λ t k b. rw (first i k b, first m k b) (h t)),
  )
    where
      first : (i k : ℕ) → k < steps_at n → i + k ≡ i
      first i k b = omega arith
