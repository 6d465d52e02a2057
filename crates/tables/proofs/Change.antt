-- A change of A[j] by f, which is given A[j], the feedback and the filter, is undone by g where g undoes f.
use mathlib.Core.Path.{◌≡◌, ◌∙◌}
use mathlib.Core.List.{List}
use Prim.Native.Nat.{ℕ, ◌^◌, ◌<◌}
use native.Mathlib.Omega.{arith}
use lib.ListN.{length, set, length-set}
use lib.Seq.{get_or-set_same, set-set, set-get_or}
use Rattle.laws.proofs.Lists.{set_below}
use Rattle.cipher.specs.declared.Cipher.{Cipher}
use Rattle.tables.specs.Area.{Area}
use Rattle.tables.specs.Step.{feedback, filter, place, changing}
use Rattle.tables.proofs.Places.{place_lt}
use Rattle.tables.proofs.Kept.{feedback_lt, feedback_kept, filter_lt, filter_kept}

abbrev pub change : (ℕ → ℕ → ℕ → ℕ) → Cipher → List ℕ → ℕ → List ℕ
change f c s i = set s (place c i) (f (changing c s i) (feedback c s i) (filter c s i))

pub change_area : (f : ℕ → ℕ → ℕ → ℕ) → ((x d h : ℕ) → x < 2 ^ 32 → h < 2 ^ 32 → f x d h < 2 ^ 32)
    → (c : Cipher) (s : List ℕ) (i : ℕ) → Area c s → Area c (change f c s i)
change_area f word c s i a =
    record {
      sized = length-set s _ _ ∙ a.sized;
      words = λ k. set_below s (place c i) k (word _ _ _ (a.words _) (filter_lt c s i)) (a.words k);
    }

pub change_undone : (f g : ℕ → ℕ → ℕ → ℕ)
    → ((x d h : ℕ) → x < 2 ^ 32 → d < 2 ^ 32 → h < 2 ^ 32 → g (f x d h) d h ≡ x)
    → (c : Cipher) (s : List ℕ) (i : ℕ) → Area c s → change g c (change f c s i) i ≡ s
change_undone f g law c s i a =
    let p : place c i < length s = omega (arith, place_lt c i, a.sized) in
    rw (
      feedback_kept c s i,
      filter_kept c s i,
      get_or-set_same s (place c i) _ 0 p,
      law _ _ _ (a.words (place c i)) (feedback_lt c s i) (filter_lt c s i),
      set-set,
    )
    (set-get_or s (place c i) 0)
