-- Steps whose numbers agree modulo 2T are the same steps.
use mathlib.Core.Path.{◌≡◌, refl}
use mathlib.Core.List.{List}
use Prim.Native.Nat.{ℕ, ◌%◌}
use native.Mathlib.Omega.{arith}
use lib.ListN.{set}
use Rattle.cipher.specs.declared.Cipher.{Cipher}
use Rattle.cipher.specs.declared.Cipher.TheVariants.{Hc128, Hc256}
use Rattle.cipher.specs.Numbers.{table_length, area_length}
use Rattle.tables.specs.Step.{feedback, filter, place, changing, step, step_back}

same_index : (c : Cipher) (i m : ℕ) → i % area_length c ≡ m % area_length c → i % table_length c ≡ m % table_length c
same_index Hc128 i m e = omega arith
same_index Hc256 i m e = omega arith

pub same_place : (c : Cipher) (i m : ℕ) → i % area_length c ≡ m % area_length c → place c i ≡ place c m
same_place c i m e = rw (same_index c i m e, e) refl

same_feedback : (c : Cipher) (s : List ℕ) (i m : ℕ) → i % area_length c ≡ m % area_length c → feedback c s i ≡ feedback c s m
unfolding feedback
same_feedback Hc128 s i m e = rw (same_index Hc128 i m e, e) refl
same_feedback Hc256 s i m e = rw (same_index Hc256 i m e, e) refl

same_filter : (c : Cipher) (s : List ℕ) (i m : ℕ) → i % area_length c ≡ m % area_length c → filter c s i ≡ filter c s m
unfolding filter
same_filter Hc128 s i m e = rw (same_index Hc128 i m e, e) refl
same_filter Hc256 s i m e = rw (same_index Hc256 i m e, e) refl

same_changing : (c : Cipher) (s : List ℕ) (i m : ℕ) → i % area_length c ≡ m % area_length c → changing c s i ≡ changing c s m
same_changing c s i m e = rw (same_index c i m e, e) refl

module _ (c : Cipher) (s : List ℕ) (i m : ℕ) (e : i % area_length c ≡ m % area_length c) where
  pub same_step : step c s i ≡ step c s m
  unfolding step
  same_step = rw (same_feedback c s i m e, same_place c i m e) refl

  pub same_step_back : step_back c s i ≡ step_back c s m
  unfolding step_back
  same_step_back = rw (same_feedback c s i m e, same_place c i m e) refl

  -- any change of A[j] that is made of A[j], the feedback and h(A[j-12])
  pub same_change : (f : (w d h : ℕ) → ℕ)
      → set s (place c i) (f (changing c s i) (feedback c s i) (filter c s i)) ≡ set s (place c m) (f (changing c s m) (feedback c s m) (filter c s m))
  same_change f = rw (same_feedback c s i m e, same_filter c s i m e, same_changing c s i m e, same_place c i m e) refl
