-- What a loop keeps that reads one thing after another, up to the first that is refused. Assumes nothing.
use mathlib.Core.Path.{◌≡◌, ap, ◌∙◌}
use Prim.Native.Nat.{ℕ, suc, ◌+◌, ◌-◌, ◌<◌, ◌≤◌}
use native.Mathlib.Omega.{arith}
use Rattle.laws.specs.Result.{Result, refused, accepted, ◌>>=◌}

-- `turn` reads one thing, and `all n` reads n of them and makes the answer; where one is refused, the answer is `stop`
module _ {S X : Type 0} (turn : S → Result S) (stop : ℕ → S → X) (all : ℕ → S → X)
    (all_refused : (n : ℕ) (s : S) (m : ℕ) → turn s ≡ refused m → all (suc n) s ≡ stop m s)
    (all_accepted : (n : ℕ) (s t : S) → turn s ≡ accepted t → all (suc n) s ≡ all n t) (n : ℕ) (start : S) where
  -- after k turns the loop has come to s: from there on it finds what it finds from the start
  abbrev pub Comes : ℕ → S → Type 0
  Comes k s = all n start ≡ all (n - k) s

  pub starts : Comes 0 start
  starts = let e : n - 0 ≡ n = omega arith in rw e

  module _ (k : ℕ) (s : S) (come : Comes k s) where
    one_left : k < n → all n start ≡ all (suc (n - (k + 1))) s
    one_left l = let e : n - k ≡ suc (n - (k + 1)) = omega arith in come ∙ ap (λ (j : ℕ). all j s) e

    pub turns : {t : S} → k < n → turn s ≡ accepted t → Comes (k + 1) t
    turns {t} l e = one_left l ∙ all_accepted (n - (k + 1)) s t e

    pub stops : {m : ℕ} → k < n → turn s ≡ refused m → all n start ≡ stop m s
    stops {m} l e = one_left l ∙ all_refused (n - (k + 1)) s m e

    pub ends : n ≤ k → all n start ≡ all 0 s
    ends l = let e : n - k ≡ 0 = omega arith in come ∙ ap (λ (j : ℕ). all j s) e

-- the same where the answer is a result, and that of a refused turn its refusal
module _ {S A : Type 0} (turn : S → Result S) (all : ℕ → S → Result A) (all_suc : (n : ℕ) (s : S) → all (suc n) s ≡ (turn s >>= all n)) where
  abbrev refusal : ℕ → S → Result A
  refusal m _ = refused m

  on_refused : (n : ℕ) (s : S) (m : ℕ) → turn s ≡ refused m → all (suc n) s ≡ refused m
  on_refused n s m e = all_suc n s ∙ rw e

  on_accepted : (n : ℕ) (s t : S) → turn s ≡ accepted t → all (suc n) s ≡ all n t
  on_accepted n s t e = all_suc n s ∙ rw e

  module _ (n : ℕ) (start : S) where
    pub result_starts : all n start ≡ all (n - 0) start
    result_starts = starts turn refusal all on_refused on_accepted n start

    module _ (k : ℕ) (s : S) (come : all n start ≡ all (n - k) s) where
      pub result_turns : {t : S} → k < n → turn s ≡ accepted t → all n start ≡ all (n - (k + 1)) t
      result_turns l e = turns turn refusal all on_refused on_accepted n start k s come l e

      pub result_refused : {m : ℕ} → k < n → turn s ≡ refused m → all n start ≡ refused m
      result_refused l e = stops turn refusal all on_refused on_accepted n start k s come l e

      pub result_ends : n ≤ k → all n start ≡ all 0 s
      result_ends l = ends turn refusal all on_refused on_accepted n start k s come l
