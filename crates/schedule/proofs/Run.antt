-- Words of which each from the seventeenth on is made of the sixteen before it: one word more, two such runs joined, and the area that they fill.
-- Assumes nothing.
use mathlib.Core.Path.{◌≡◌, refl, sym, ap, ◌∙◌}
use mathlib.Core.List.{List, ◌++◌, append_assoc}
use mathlib.Core.Logic.{⊎_elim}
use Prim.Native.Nat.{ℕ, ◌+◌, ◌-◌, ◌/◌, ◌≤◌, ◌<◌}
use native.Mathlib.Nat.{zero-add, eq-or-lt_of_le}
use native.Mathlib.Omega.{arith}
use lib.ListN.{length, get_or, set, take, drop, length-append, length-set, length-drop, take-append-drop}
use lib.Seq.{get_or-set_same, get_or-set_other, get_or-drop, get_or-take, length-take-le, take_at, drop_at, drop-append-le, drop-append-add, take-set-le}
use Rattle.laws.proofs.Lists.{below_or_not}
use Rattle.cipher.specs.declared.Cipher.{Cipher}
use Rattle.cipher.specs.Numbers.{table_length, area_length, expansion_length}
use Rattle.schedule.specs.Expansion.{next_word, expansion, filled}
use Rattle.schedule.specs.Window.{next_at, Run}
use Rattle.schedule.proofs.Expansion.{sizes, Follows, follows_expansion}

-- ---- one word more

-- the words of l before place k are made, its first sixteen are those of s, and w2 and w1 are the last two before place k
pub record Going (n : ℕ) (s : List ℕ) (k : ℕ) (l : List ℕ) (w2 w1 : ℕ) : Type 0 where
  pub first : take 16 l ≡ take 16 s
  pub made : (m : ℕ) → 16 ≤ m → m < k → get_or l m 0 ≡ next_at l m (get_or l (m - 2) 0) n
  pub second_last : w2 ≡ get_or l (k - 2) 0
  pub last : w1 ≡ get_or l (k - 1) 0

module _ (n : ℕ) (s l : List ℕ) (k j w2 w1 x : ℕ) (before : 16 ≤ k) (within : k < length l) (after : j ≡ k + 1) where
  -- a store at place k leaves the words before it
  kept : (m : ℕ) → m < k → get_or (set l k x) m 0 ≡ get_or l m 0
  kept m b = get_or-set_other l k m x 0 (λ e. omega arith)

  -- and what is made of them
  made_same : (m w : ℕ) → 16 ≤ m → m ≤ k → next_at l m w n ≡ next_at (set l k x) m w n
  made_same m w lo hi = rw (kept (m - 7) (omega arith), kept (m - 15) (omega arith), kept (m - 16) (omega arith))

  pub going_next : Going n s k l w2 w1 → x ≡ next_at l k w2 n → Going n s j (set l k x) w1 x
  going_next g e = record {
    first = take-set-le 16 l k x before ∙ g.first;
    made = λ m lo hi.
        ⊎_elim
        (λ (q : m ≡ k).
        rw q
        (get_or-set_same l k x 0 within ∙ e
        ∙ made_same k w2 before (omega arith)
        ∙ ap (λ (w : ℕ). next_at (set l k x) k w n) (g.second_last ∙ sym (kept (k - 2) (omega arith)))))
        (λ (q : m < k).
        kept m q ∙ g.made m lo q
        ∙ made_same m _ lo (omega arith)
        ∙ ap (λ (w : ℕ). next_at (set l k x) m w n) (sym (kept (m - 2) (omega arith))))
        (eq-or-lt_of_le (omega arith));
    second_last = let i : j - 2 ≡ k - 1 = omega arith in rw i (g.last ∙ sym (kept (k - 1) (omega arith)));
    last = let i : j - 1 ≡ k = omega arith in rw i (sym (get_or-set_same l k x 0 within));
  }

-- four words more, each made of what the stores before it left
pub going_four : (n : ℕ) (s l : List ℕ) (k w2 w1 x y z t : ℕ) → 16 ≤ k → k + 3 < length l → Going n s k l w2 w1
    → x ≡ next_at l k w2 n
    → y ≡ next_at (set l k x) (k + 1) w1 n
    → z ≡ next_at (set (set l k x) (k + 1) y) (k + 2) x n
    → t ≡ next_at (set (set (set l k x) (k + 1) y) (k + 2) z) (k + 3) y n
    → Going n s (k + 4) (set (set (set (set l k x) (k + 1) y) (k + 2) z) (k + 3) t) z t
going_four n s l k w2 w1 x y z t before within g ex ey ez et =
    going_next n s _ (k + 3) (k + 4) y z t (omega arith) (simp length-set within) (omega arith)
    (going_next n s _ (k + 2) (k + 3) x y z (omega arith) (simp length-set (omega arith)) (omega arith)
    (going_next n s _ (k + 1) (k + 2) w1 x y (omega arith) (simp length-set (omega arith)) (omega arith)
    (going_next n s l k (k + 1) w2 w1 x before (omega arith) refl g ex) ey) ez) et

-- ---- two runs joined

-- what is made of the words before place k, in a list that begins m words later
later_same : (l : List ℕ) (n m k w : ℕ) → 16 ≤ k → next_at (drop m l) k w (n + m) ≡ next_at l (m + k) w n
later_same l n m k w lo =
    let at : (d : ℕ) → d ≤ 16 → get_or (drop m l) (k - d) 0 ≡ get_or l (m + k - d) 0 = λ d b.
    let i : m + (k - d) ≡ m + k - d = omega arith in get_or-drop m l (k - d) 0 ∙ ap (λ (z : ℕ). get_or l z 0) i in
    let i : n + m + k ≡ n + (m + k) = omega arith in
    rw (at 7 (omega arith), at 15 (omega arith), at 16 (omega arith), i)

-- a run of 16 + m words, and one that starts m words later and goes on after it
pub run_join : (l : List ℕ) (n m : ℕ) → 16 + m ≤ length l → Run n (take (16 + m) l) → Run (n + m) (drop m l) → Run n l
run_join l n m long p q k lo hi =
    ⊎_elim
    (λ (h : k < 16 + m).
    let at : (j : ℕ) → j ≤ k → get_or (take (16 + m) l) j 0 ≡ get_or l j 0 = λ j a. get_or-take (16 + m) l j 0 (omega arith) in
    sym (at k (omega arith)) ∙ p k lo (rw (length-take-le (16 + m) l long) h)
    ∙ rw (at (k - 2) (omega arith), at (k - 7) (omega arith), at (k - 15) (omega arith), at (k - 16) (omega arith)))
    (λ (h : 16 + m ≤ k).
    let e : m + (k - m) ≡ k = omega arith in
    let two : m + (k - m - 2) ≡ k - 2 = omega arith in
    let r = q (k - m) (omega arith) (rw length-drop (omega arith)) in
    rw (get_or-drop m l (k - m) 0, get_or-drop m l (k - m - 2) 0, two, later_same l n m (k - m) (get_or l (k - 2) 0) (omega arith), e) at r)
    (below_or_not k (16 + m))

-- the words after a run, made of its last sixteen words v
pub run_append : (u v a : List ℕ) (n m : ℕ) → length u ≡ 16 + m → v ≡ drop m u → Run n u → Run (n + m) (v ++ a) → Run n (u ++ a)
run_append u v a n m long last p q =
    run_join (u ++ a) n m (rw (length-append, long) (omega arith))
    (rw (take_at u a (16 + m) long) p)
    (rw (drop-append-le m u a (omega arith), ← last) q)

-- thirty-two words are sixteen and sixteen more
pub run_two : (l w r : List ℕ) (n : ℕ) → take 16 l ≡ w → r ≡ drop 16 l → Run n l → Run n (w ++ r)
run_two l w r n first second p = rw (second, ← first, take-append-drop) p

-- the words of a, made of its first sixteen, and those made of the sixteen words before it
pub run_more : (w f a : List ℕ) (n : ℕ) → length w ≡ 16 → length f ≡ 16 → take 16 a ≡ f → Run n (w ++ f) → Run (n + 16) a → Run n (w ++ a)
run_more w f a n long short first p q =
    let e : f ++ drop 16 a ≡ a = rw (← first) (take-append-drop 16 a) in
    let r : Run n (w ++ f ++ drop 16 a) =
    run_append (w ++ f) f (drop 16 a) n 16 (rw (length-append, long, short)) (sym (drop_at w f 16 long)) p (rw e q) in
    rw (append_assoc, e) at r

-- ---- an area

-- the words before W(T/2), which are made of W0..15, and the area's, which are made of the last sixteen of them
module _ (c : Cipher) (w b v a : List ℕ) (sixteen : length w ≡ 16) (short : length b ≡ table_length c / 2 - 16) (long : length a ≡ area_length c) where
  all_length : length (w ++ b) ≡ table_length c / 2
  all_length = let z = sizes c in rw (length-append, sixteen, short) (omega arith)

  pub filled_run : v ≡ drop (table_length c / 2 - 16 - 16) b → Run 0 (w ++ b) → Run (table_length c / 2 - 16) (v ++ a) → a ≡ filled c w
  unfolding filled next_word
  filled_run last p q =
      let z = sizes c in
      let half = table_length c / 2 in
      let m = expansion_length c - 16 in
      let W = w ++ b ++ a in
      let i : length w + (half - 16 - 16) ≡ half - 16 = omega arith in
      let l : v ≡ drop (half - 16) (w ++ b) = last ∙ sym (rw i at (drop-append-add w b (half - 16 - 16))) in
      let n : length W ≡ 16 + m = rw (length-append, all_length, long) (omega arith) in
      let run : Run 0 W = run_append (w ++ b) v a 0 (half - 16) (all_length ∙ omega arith) l p (rw (zero-add (half - 16)) q) in
      let follows : Follows W m = λ i h. rw (zero-add (16 + i)) at (run (16 + i) (omega arith) (omega arith)) in
      let first : take 16 W ≡ w = rw append_assoc (take_at w (b ++ a) 16 sixteen) in
      sym (drop_at (w ++ b) a half all_length) ∙ ap (drop half) (follows_expansion W m n follows ∙ ap (λ (u : List ℕ). expansion u m) first)
