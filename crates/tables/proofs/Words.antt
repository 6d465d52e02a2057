-- What the code reads by its indices is the feedback and h(A[j-12]) of step i, and what it stores is the step.
use mathlib.Core.Path.{◌≡◌, refl}
use mathlib.Core.Bool.{Bool}
use mathlib.Core.List.{List}
use Prim.Native.Nat.{ℕ}
use lib.ListN.{get_or, set}
use Rattle.word.specs.Word.{◌⊞◌, ◌⊟◌}
use Rattle.cipher.specs.declared.Cipher.{Cipher}
use Rattle.cipher.specs.declared.Cipher.TheVariants.{Hc128, Hc256}
use Rattle.cipher.specs.Numbers.{table_length}
use Rattle.functions.specs.ByCipher.{feedback_of, h_of, filter_of}
use Rattle.tables.specs.declared.Indices.{Indices}
use Rattle.tables.specs.Area.{changes_p, indices_at, places}
use Rattle.tables.specs.Step.{feedback, filter, place, step, step_back}

-- p tells whether P changes, and x are the places that step i reads
pub feedback_read : (c : Cipher) (s : List ℕ) (i : ℕ) {p : Bool} {x : Indices}
    → p ≡ changes_p (table_length c) i → x ≡ places (table_length c) p (indices_at (table_length c) i)
    → feedback_of c p s (get_or s x.minus3 0) (get_or s x.minus10 0) (get_or s x.plus1 0) ≡ feedback c s i
unfolding feedback_of feedback
feedback_read Hc128 s i e f = rw (f, e) refl
feedback_read Hc256 s i e f = rw (f, e) refl

pub filter_read : (c : Cipher) (s : List ℕ) (i : ℕ) {p : Bool} {x : Indices}
    → p ≡ changes_p (table_length c) i → x ≡ places (table_length c) p (indices_at (table_length c) i)
    → filter_of c p s (get_or s x.minus12 0) ≡ filter c s i
unfolding filter_of h_of filter
filter_read Hc128 s i e f = rw (f, e) refl
filter_read Hc256 s i e f = rw (f, e) refl

-- k is the place of A[j]
module _ (c : Cipher) (s : List ℕ) (i : ℕ) {k v : ℕ} (e : k ≡ place c i) where
  pub stepped : v ≡ get_or s k 0 ⊞ feedback c s i → set s k v ≡ step c s i
  unfolding step
  stepped f = rw (f, e) refl

  pub stepped_back : v ≡ get_or s k 0 ⊟ feedback c s i → set s k v ≡ step_back c s i
  unfolding step_back
  stepped_back f = rw (f, e) refl
