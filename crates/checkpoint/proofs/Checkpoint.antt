-- The length of a checkpoint, the longest one, and its parts stored one after another. Assumes nothing.
use mathlib.Core.Path.{◌≡◌, sym, ◌∙◌}
use mathlib.Core.List.{List, ◌++◌}
use Prim.Native.Nat.{ℕ, ◌+◌, ◌^◌, ◌<◌, ◌≤◌}
use native.Mathlib.Nat.{zero-add}
use native.Mathlib.Omega.{arith}
use lib.ListN.{length, set, drop, length-append}
use lib.Seq.{sets, sets-eq}
use Rattle.laws.proofs.Stores.{sets_append}
use Rattle.word.specs.Bytes.{bytes}
use Rattle.word.proofs.Bytes.{length_bytes}
use Rattle.varint.specs.Number.{number}
use Rattle.varint.proofs.Groups.{number_length}
use Rattle.cipher.specs.declared.Cipher.{Cipher}
use Rattle.cipher.specs.Numbers.{code_of, area_length}
use Rattle.checkpoint.specs.Checkpoint.{layout, length_of, most_groups, longest}

-- a position is below 2 ^ 28: it has at most four groups
position_length : (p : ℕ) → p < 2 ^ 28 → length (number p) ≤ most_groups
position_length p l = number_length 4 p (omega arith) (omega arith) l

pub length_longest : (c : Cipher) (p : ℕ) → p < 2 ^ 28 → length_of c p ≤ longest c
length_longest c p l = omega (arith, position_length p l)

module _ (c : Cipher) (p : ℕ) (s : List ℕ) where
  pub layout_length : length s ≡ area_length c → length (layout c p s) ≡ length_of c p
  unfolding layout
  layout_length e = omega (arith, length-append (number p) (bytes s), length_bytes s)

  pub layout_stored : (lent : List ℕ) → length (layout c p s) ≤ length lent
      → sets (sets (set lent 0 (code_of c)) 1 (number p)) (1 + length (number p)) (bytes s)
      ≡ layout c p s ++ drop (length (layout c p s)) lent
  unfolding layout
  layout_stored lent h =
      sym (sets_append (set lent 0 (code_of c)) 1 (number p) (bytes s)) ∙ rw zero-add at (sets-eq (layout c p s) lent 0 (omega arith))
