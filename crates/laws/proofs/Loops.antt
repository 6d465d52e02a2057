-- What a loop keeps that makes, or undoes, the numbered changes i to i + n - 1 of a list, one a turn. Assumes nothing.
use mathlib.Core.Path.{◌≡◌, refl, sym, ap, ◌∙◌}
use mathlib.Core.List.{List}
use Prim.Native.Nat.{ℕ, ◌+◌, ◌-◌, ◌≤◌, ◌<◌}
use native.Mathlib.Omega.{arith}
use lib.ListN.{length}
use Rattle.laws.specs.Iterate.{forward, backward}
use Rattle.laws.proofs.Iterate.{forward_none, forward_more, forward_add, backward_none, backward_less, backward_add}

-- k changes of s₀ have made s
pub record Forward (f : List ℕ → ℕ → List ℕ) (s₀ s : List ℕ) (i k n : ℕ) : Type 0 where
  pub done : s ≡ forward f s₀ i k
  pub sized : length s ≡ length s₀
  pub within : k ≤ n

module _ (f : List ℕ → ℕ → List ℕ) (s₀ : List ℕ) (i n : ℕ) where
  pub forward_starts : Forward f s₀ s₀ i 0 n
  forward_starts = record { done = sym (forward_none f s₀ i); sized = refl; within = omega arith }

  pub forward_turns : {s t : List ℕ} {k : ℕ} (m : ℕ) → Forward f s₀ s i k n → k < n → m ≡ i + k → t ≡ f s m → length t ≡ length s
      → Forward f s₀ t i (k + 1) n
  forward_turns {s} {t} {k} m v l e q z = record {
    done = q ∙ rw (e, v.done) (sym (forward_more f s₀ i k));
    sized = z ∙ v.sized;
    within = omega arith;
  }

  -- a turn of r changes
  pub forward_turns_by : {s t : List ℕ} {k : ℕ} (m r : ℕ) → Forward f s₀ s i k n → r ≤ n - k → m ≡ i + k → t ≡ forward f s m r → length t ≡ length s
      → Forward f s₀ t i (k + r) n
  forward_turns_by {s} {t} {k} m r v l e q z = record {
    done = q ∙ rw (e, v.done) (forward_add f s₀ i k r);
    sized = z ∙ v.sized;
    within = omega arith;
  }

  pub forward_ends : {s : List ℕ} {k : ℕ} → Forward f s₀ s i k n → n ≤ k → s ≡ forward f s₀ i n
  forward_ends {s} {k} v l = let e : n ≡ k = omega arith in rw e v.done

-- of the n changes that made s₀, those from i + k on are undone in s
pub record Backward (g : List ℕ → ℕ → List ℕ) (s₀ s : List ℕ) (i k n : ℕ) : Type 0 where
  pub left : backward g s i k ≡ backward g s₀ i n
  pub sized : length s ≡ length s₀
  pub within : k ≤ n

module _ (g : List ℕ → ℕ → List ℕ) (s₀ : List ℕ) (i n : ℕ) where
  pub backward_turns : {s t : List ℕ} {k : ℕ} (m : ℕ) → Backward g s₀ s i k n → 0 < k → m ≡ i + (k - 1) → t ≡ g s m → length t ≡ length s
      → Backward g s₀ t i (k - 1) n
  backward_turns {s} {t} {k} m v l e q z = record {
    left = rw (q, e) (sym (backward_less g s i k l) ∙ v.left);
    sized = z ∙ v.sized;
    within = omega arith;
  }

  -- a turn of r changes
  pub backward_turns_by : {s t : List ℕ} {k : ℕ} (m r : ℕ) → Backward g s₀ s i k n → r ≤ k → m ≡ i + (k - r) → t ≡ backward g s m r → length t ≡ length s
      → Backward g s₀ t i (k - r) n
  backward_turns_by {s} {t} {k} m r v l e q z =
      let whole : k - r + r ≡ k = omega arith in
      record {
        left = rw (q, e) (backward_add g s i (k - r) r ∙ ap (backward g s i) whole ∙ v.left);
        sized = z ∙ v.sized;
        within = omega arith;
      }

  pub backward_ends : {s : List ℕ} {k : ℕ} → Backward g s₀ s i k n → k ≤ 0 → s ≡ backward g s₀ i n
  backward_ends {s} {k} v l =
      let e : k ≡ 0 = omega arith in
      sym (backward_none g s i) ∙ rw e at v.left
