-- What a caller of `read_position` knows of its answer, which is `position_of` of the string. Assumes nothing.
use mathlib.Core.Path.{◌≡◌, refl, ◌∙◌}
use mathlib.Core.Logic.{⊎_elim}
use mathlib.Core.List.{List, [], ◌∷◌}
use Prim.Native.Nat.{ℕ, zero, suc, ◌+◌, ◌-◌, ◌<◌, ◌≤◌}
use native.Mathlib.Omega.{arith}
use lib.ListN.{length, drop, length-drop}
use lib.Seq.{drop-drop}
use Rattle.laws.specs.Result.{Result, refused, accepted}
use Rattle.laws.proofs.Lists.{below_or_not}
use Rattle.varint.specs.declared.Found.{Found}
use Rattle.varint.specs.Number.{Reading, is, ended, malformed, before, read_groups, read_number}
use Rattle.varint.proofs.Reading.{read_none, read_end, read_last, read_small, read_more}
use Rattle.checkpoint.specs.Checkpoint.{most_groups}
use Rattle.reader.specs.Readings.{found_in, byte_at, value_in, position_of}

-- the bytes after a number are those from some place of the string on, and the number has at least one byte
abbrev ReadFrom : List ℕ → Reading → Type 0
ReadFrom s (is value rest) = (i : ℕ) × (0 < i) × (i ≤ length s) × (rest ≡ drop i s)
ReadFrom s ended = Unit {0}
ReadFrom s malformed = Unit {0}

from_more : (b : ℕ) (s : List ℕ) (f : Reading) → ReadFrom s f → ReadFrom (b ∷ s) (before b f)
from_more b s (is value rest) (i, p, l, e) = (suc i, omega arith, omega arith, e)
from_more b s ended w = tt
from_more b s malformed w = tt

groups_from : (k least : ℕ) (s : List ℕ) → ReadFrom s (read_groups k least s)
groups_from zero least s = rw (read_none least s) tt
groups_from (suc k) least [] = rw (read_end k least) tt
groups_from (suc k) least (b ∷ s) =
    ⊎_elim
    (λ (l : b < 128).
    ⊎_elim
    (λ (t : b < least). rw (read_small k least b s l t) tt)
    (λ (t : least ≤ b). rw (read_last k least b s l t) (1, omega arith, omega arith, refl))
    (below_or_not b least))
    (λ (l : 128 ≤ b). rw (read_more k least b s l) (from_more b s (read_groups k 1 s) (groups_from k 1 s)))
    (below_or_not b 128)

-- what holds of a position that was read, and of both refusals, holds of the answer and of what stands after the code byte
module _ (s : List ℕ) (P : Result (Found ℕ) → Reading → Type 0)
    (number : (value next : ℕ) → 2 ≤ next → next ≤ length s → P (accepted (record { value = value; next = next })) (is value (drop next s)))
    (none : P (refused 9) ended) (bad : P (refused 10) malformed) where
  by_reading : (f : Reading) → ReadFrom (drop 1 s) f → P (found_in s f) f
  by_reading (is value rest) (i, p, l, e) =
      let n : length (drop 1 s) ≡ length s - 1 = length-drop 1 s in
      let r : rest ≡ drop (1 + i) s = e ∙ drop-drop i 1 s in
      let m : length s - length rest ≡ 1 + i = rw (r, length-drop) (omega arith) in
      rw (m, r) (number value (1 + i) (omega arith) (omega arith))
  by_reading ended w = none
  by_reading malformed w = bad

  pub position_cases : P (position_of s) (read_number most_groups (drop 1 s))
  position_cases = by_reading (read_number most_groups (drop 1 s)) (groups_from most_groups 0 (drop 1 s))

-- a string without a code byte has no position
pub no_code : (s : List ℕ) (n : ℕ) → refused n ≡ value_in (byte_at s 0) → refused n ≡ position_of s
unfolding read_groups
no_code [] n e = let f : n ≡ 9 = cc in rw f
no_code (b ∷ s) n e = absurd (cc)
