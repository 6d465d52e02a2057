-- Feedback and filter of step i are words, and a change of A[j] leaves them as they were.
use mathlib.Core.Path.{◌≡◌}
use mathlib.Core.List.{List}
use Prim.Native.Nat.{ℕ, ◌+◌, ◌%◌, ◌^◌, ◌<◌}
use native.Mathlib.Omega.{arith}
use lib.ListN.{set}
use Rattle.word.specs.Word.{◌⊕◌}
use Rattle.word.specs.Bytes.{byte}
use Rattle.cipher.specs.declared.Cipher.{Cipher}
use Rattle.cipher.specs.declared.Cipher.TheVariants.{Hc128, Hc256}
use Rattle.tables.specs.Area.{indices_at}
use Rattle.tables.specs.Step.{A, feedback, filter, place}
use Rattle.tables.proofs.Places.{own_kept, other_kept}

pub feedback_lt : (c : Cipher) (s : List ℕ) (i : ℕ) → feedback c s i < 2 ^ 32
unfolding feedback
feedback_lt Hc128 s i = omega arith
feedback_lt Hc256 s i = omega arith

pub filter_lt : (c : Cipher) (s : List ℕ) (i : ℕ) → filter c s i < 2 ^ 32
unfolding filter
filter_lt Hc128 s i = omega arith
filter_lt Hc256 s i = omega arith

pub feedback_kept : (c : Cipher) (s : List ℕ) (i v : ℕ) → feedback c (set s (place c i) v) i ≡ feedback c s i
unfolding feedback
feedback_kept Hc128 s i v =
    let own = own_kept Hc128 s i v in
    cc (own 509 (omega arith) (omega arith), own 502 (omega arith) (omega arith), own 1 (omega arith) (omega arith))
feedback_kept Hc256 s i v =
    let own = own_kept Hc256 s i v in
    cc (
      own 1014 (omega arith) (omega arith),
      own 1021 (omega arith) (omega arith),
      own 1 (omega arith) (omega arith),
      other_kept Hc256 s i v ((A 1024 s i (indices_at 1024 i).minus3 ⊕ A 1024 s i (indices_at 1024 i).plus1) % 1024) (omega arith),
    )

pub filter_kept : (c : Cipher) (s : List ℕ) (i v : ℕ) → filter c (set s (place c i) v) i ≡ filter c s i
unfolding filter
filter_kept Hc128 s i v =
    let x = A 512 s i (indices_at 512 i).minus12 in
    let other = other_kept Hc128 s i v in
    cc (own_kept Hc128 s i v 500 (omega arith) (omega arith), other (byte 0 x) (omega arith), other (256 + byte 2 x) (omega arith))
filter_kept Hc256 s i v =
    let x = A 1024 s i (indices_at 1024 i).minus12 in
    let other = other_kept Hc256 s i v in
    cc (
      own_kept Hc256 s i v 1012 (omega arith) (omega arith),
      other (byte 0 x) (omega arith),
      other (256 + byte 1 x) (omega arith),
      other (512 + byte 2 x) (omega arith),
      other (768 + byte 3 x) (omega arith),
    )
