-- A window holds the sixteen words Wn..W(n+15) of a list, Wi at place i mod 16, however far it is moved back. Assumes nothing.
use mathlib.Core.Path.{◌≡◌, sym, ap, ◌∙◌}
use mathlib.Core.List.{List}
use mathlib.Core.Logic.{⊎_elim}
use Prim.Native.Nat.{ℕ, zero, suc, ◌+◌, ◌/◌, ◌%◌, ◌≤◌, ◌<◌}
use native.Mathlib.Nat.{eq-or-lt_of_le}
use native.Mathlib.Omega.{arith}
use lib.ListN.{length, get_or, set, take, drop, length-set}
use lib.Seq.{get_or-set_same, get_or-set_other, get_or-drop, get_or-take, ext_get_or, length-take-le}
use Rattle.laws.specs.Iterate.{backward}
use Rattle.cipher.specs.declared.Cipher.{Cipher}
use Rattle.cipher.specs.Numbers.{table_length, area_length}
use Rattle.schedule.specs.Origin.{previous_word, unexpansion, origin}
use Rattle.schedule.specs.Window.{previous}
use Rattle.schedule.proofs.Expansion.{sizes}
use Rattle.schedule.proofs.Unexpansion.{unexpansion_length, unexpansion_at, unexpansion_previous}

-- the window v holds Wn..W(n+15) of W
pub record Holds (W v : List ℕ) (n : ℕ) : Type 0 where
  pub long : length v ≡ 16
  pub words : (i : ℕ) → n ≤ i → i < 16 + n → get_or v (i % 16) 0 ≡ get_or W i 0

place_below : (n l : ℕ) → l ≡ 16 → n % 16 < l
place_below n l e = omega arith

-- the window with W(i-16) for Wi
module _ (W v : List ℕ) (n x : ℕ) where
  set_previous : Holds W v (suc n) → x ≡ get_or W n 0 → Holds W (set v ((16 + n) % 16) x) n
  set_previous h e = record {
    long = simp length-set h.long;
    words = λ i lo hi.
        ⊎_elim
        (λ q. let p : i % 16 ≡ (16 + n) % 16 = omega arith in
        rw p (get_or-set_same v ((16 + n) % 16) x 0 (place_below (16 + n) _ h.long) ∙ e ∙ ap (λ (z : ℕ). get_or W z 0) q))
        (λ l. get_or-set_other v ((16 + n) % 16) (i % 16) x 0 (λ q. omega arith) ∙ h.words i l (omega arith))
        (eq-or-lt_of_le lo);
  }

-- the word that the window holds at place i mod 16
held : (W v : List ℕ) (n : ℕ) → Holds W v n → (i j : ℕ) → i % 16 ≡ j % 16 → n ≤ j → j < 16 + n → get_or v (i % 16) 0 ≡ get_or W j 0
held W v n h i j e lo hi = rw e (h.words j lo hi)

module _ (W v : List ℕ) (n : ℕ) where
  previous_holds : previous_word (drop (suc n) W) n ≡ get_or W n 0 → Holds W v (suc n) → Holds W (previous v (16 + n)) n
  unfolding previous previous_word
  previous_holds e h =
      let at : (i k : ℕ) → k < 16 → i % 16 ≡ (suc n + k) % 16 → get_or v (i % 16) 0 ≡ get_or (drop (suc n) W) k 0 =
      λ i k l p. held W v (suc n) h i (suc n + k) p (omega arith) (omega arith) ∙ sym (get_or-drop (suc n) W k 0) in
      set_previous W v n _ h
      (rw (
        at (16 + n) 15 (omega arith) (omega arith),
        at (16 + n + 14) 13 (omega arith) (omega arith),
        at (16 + n + 9) 8 (omega arith) (omega arith),
        at (16 + n + 1) 0 (omega arith) (omega arith),
      ) e)

-- the window moved n words back
pub backward_holds : (W : List ℕ) (n : ℕ) → ((i : ℕ) → i < n → previous_word (drop (suc i) W) i ≡ get_or W i 0) → (v : List ℕ) → Holds W v n
    → Holds W (backward previous v 16 n) 0
unfolding backward
backward_holds W zero back v h = h
backward_holds W (suc n) back v h =
    backward_holds W n (λ i l. back i (omega arith)) (previous v (16 + n)) (previous_holds W v n (back n (omega arith)) h)

-- ---- an area

-- the place of Wi in the first window of an area
first_place : (h i : ℕ) → h % 16 ≡ 0 → h ≤ i → i < 16 + h → i ≡ h + i % 16
first_place h i e lo hi = let q : i / 16 ≡ h / 16 = omega arith in omega arith

-- the first window of an area, moved back, is what the area leads back to
pub origin_window : (c : Cipher) (s v w : List ℕ) (half : ℕ) → length s ≡ area_length c → half ≡ table_length c / 2 → v ≡ take 16 s
    → w ≡ backward previous v 16 half → w ≡ origin c s
unfolding origin
origin_window c s v w half long h start moved =
    let z = sizes c in
    let U = unexpansion s half in
    let n = unexpansion_length s half in
    let first : Holds U (take 16 s) half = record {
      long = length-take-le 16 s (omega arith);
      words = λ i lo hi.
          let e : i ≡ half + i % 16 = first_place half i (rw h z.1) lo hi in
          get_or-take 16 s (i % 16) 0 (omega arith) ∙ sym (ap (λ (j : ℕ). get_or U j 0) e ∙ unexpansion_at s half (i % 16));
    } in
    let last : Holds U w 0 = rw (moved, start) (backward_holds U half (unexpansion_previous s half) (take 16 s) first) in
    let l = last.long in
    rw (← h)
    (ext_get_or 0 w (take 16 U) (l ∙ sym (length-take-le 16 U (omega arith)))
    (λ k b.
    let e : k % 16 ≡ k = omega arith in
    (rw e at (last.words k (omega arith) (omega arith))) ∙ sym (get_or-take 16 U k 0 (omega arith))))
