-- Changes that are undone one by one are undone in a row. P is what the states keep. Assumes nothing.
use mathlib.Core.Path.{◌≡◌, refl, sym, ap, ◌∙◌}
use Prim.Native.Nat.{ℕ, zero, suc, ◌+◌, ◌-◌, ◌≤◌, ◌<◌}
use native.Mathlib.Nat.{add-zero, add-suc, add_assoc}
use native.Mathlib.Numerals.{add-one}
use native.Mathlib.Omega.{arith}
use Rattle.laws.specs.Iterate.{forward, backward}

module _ {A : Type 0} (P : A → Type 0) (f g : A → ℕ → A) where
  pub forward_kept : ((s : A) (i : ℕ) → P s → P (f s i)) → (s : A) (i n : ℕ) → P s → P (forward f s i n)
  unfolding forward
  forward_kept kept s i zero p = p
  forward_kept kept s i (suc n) p = kept _ (i + n) (forward_kept kept s i n p)

  pub backward_kept : ((s : A) (i : ℕ) → P s → P (g s i)) → (s : A) (i n : ℕ) → P s → P (backward g s i n)
  unfolding backward
  backward_kept kept s i zero p = p
  backward_kept kept s i (suc n) p = backward_kept kept (g s (i + n)) i n (kept s (i + n) p)

  pub backward_forward : ((s : A) (i : ℕ) → P s → P (f s i)) → ((s : A) (i : ℕ) → P s → g (f s i) i ≡ s)
      → (s : A) (i n : ℕ) → P s → backward g (forward f s i n) i n ≡ s
  unfolding forward backward
  backward_forward kept law s i zero p = refl
  backward_forward kept law s i (suc n) p = rw (law (forward f s i n) (i + n) (forward_kept kept s i n p)) (backward_forward kept law s i n p)

  pub forward_backward : ((s : A) (i : ℕ) → P s → P (g s i)) → ((s : A) (i : ℕ) → P s → f (g s i) i ≡ s)
      → (s : A) (i n : ℕ) → P s → forward f (backward g s i n) i n ≡ s
  unfolding forward backward
  forward_backward kept law s i zero p = refl
  forward_backward kept law s i (suc n) p = rw (forward_backward kept law (g s (i + n)) i n (kept s (i + n) p)) (law s (i + n) p)

-- for a loop: one change more, one fewer, none left
module _ {A : Type 0} where
  pub forward_more : (f : A → ℕ → A) (s : A) (i n : ℕ) → forward f s i (n + 1) ≡ f (forward f s i n) (i + n)
  unfolding forward
  forward_more f s i n = rw add-one refl

  pub backward_less : (g : A → ℕ → A) (s : A) (i n : ℕ) → 0 < n → backward g s i n ≡ backward g (g s (i + (n - 1))) i (n - 1)
  unfolding backward
  backward_less g s i zero h = elim h [ ]
  backward_less g s i (suc n) h = let e : suc n - 1 ≡ n = omega arith in rw e refl

  pub backward_none : (g : A → ℕ → A) (s : A) (i : ℕ) → backward g s i 0 ≡ s
  unfolding backward
  backward_none g s i = refl

  pub forward_none : (f : A → ℕ → A) (s : A) (i : ℕ) → forward f s i 0 ≡ s
  unfolding forward
  forward_none f s i = refl

  pub forward_one : (f : A → ℕ → A) (s : A) (i : ℕ) → forward f s i 1 ≡ f s i
  unfolding forward
  forward_one f s i = rw add-zero

  -- n changes and then m more
  pub forward_add : (f : A → ℕ → A) (s : A) (i n m : ℕ) → forward f (forward f s i n) (i + n) m ≡ forward f s i (n + m)
  unfolding forward
  forward_add f s i n zero = rw add-zero
  forward_add f s i n (suc m) = rw (add-suc, forward_add f s i n m, add_assoc)

  -- the first i changes, and then those up to the first j
  pub forward_from : (f : A → ℕ → A) (s : A) (i j : ℕ) → i ≤ j → forward f (forward f s 0 i) i (j - i) ≡ forward f s 0 j
  forward_from f s i j l =
      let start : 0 + i ≡ i = omega arith in
      let sum : i + (j - i) ≡ j = omega arith in
      ap (λ (k : ℕ). forward f (forward f s 0 i) k (j - i)) (sym start) ∙ forward_add f s 0 i (j - i) ∙ ap (forward f s 0) sum

  -- the first of the changes, and the rest
  pub forward_first : (f : A → ℕ → A) (s : A) (i n : ℕ) → forward f s i (suc n) ≡ forward f (f s i) (suc i) n
  forward_first f s i n =
      let e : suc n ≡ 1 + n = omega arith in
      let o : suc i ≡ i + 1 = omega arith in
      rw (e, o, ← forward_add f s i 1 n, forward_one)

  -- n changes that are the same under other numbers
  pub forward_same_below : (f g : A → ℕ → A) (s : A) (i m n : ℕ) → ((t : A) (k : ℕ) → k < n → f t (i + k) ≡ g t (m + k)) → forward f s i n ≡ forward g s m n
  unfolding forward
  forward_same_below f g s i m zero e = refl
  forward_same_below f g s i m (suc n) e = rw (forward_same_below f g s i m n (λ t k l. e t k (omega arith))) (e _ n (omega arith))

  pub forward_same : (f g : A → ℕ → A) (s : A) (i m n : ℕ) → ((t : A) (k : ℕ) → f t (i + k) ≡ g t (m + k)) → forward f s i n ≡ forward g s m n
  forward_same f g s i m n e = forward_same_below f g s i m n (λ t k l. e t k)

  pub backward_same : (g : A → ℕ → A) (s : A) (i m n : ℕ) → ((t : A) (k : ℕ) → g t (i + k) ≡ g t (m + k)) → backward g s i n ≡ backward g s m n
  unfolding backward
  backward_same g s i m zero e = refl
  backward_same g s i m (suc n) e = rw (e s n) (backward_same g (g s (m + n)) i m n e)

  -- the last m of n + m changes undone, and then the others
  pub backward_add : (g : A → ℕ → A) (s : A) (i n m : ℕ) → backward g (backward g s (i + n) m) i n ≡ backward g s i (n + m)
  unfolding backward
  backward_add g s i n zero = rw add-zero
  backward_add g s i n (suc m) =
      let e : i + n + m ≡ i + (n + m) = omega arith in
      rw add-suc (backward_add g (g s (i + n + m)) i n m ∙ ap (λ (k : ℕ). backward g (g s k) i (n + m)) e)

  pub backward_one : (g : A → ℕ → A) (s : A) (i : ℕ) → backward g s i 1 ≡ g s i
  unfolding backward
  backward_one g s i = rw add-zero
