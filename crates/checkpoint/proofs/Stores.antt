-- Lists stored one after another: the bytes of words, one by one. Assumes nothing.
use mathlib.Core.Path.{◌≡◌, refl, ap, ◌∙◌}
use mathlib.Core.List.{List, [], ◌∷◌, ◌++◌}
use Prim.Native.Nat.{ℕ, ◌+◌, ◌*◌, ◌<◌, ◌≤◌}
use native.Mathlib.Numerals.{add-one}
use Rattle.std.proofs.Common.{append_assoc}
use native.Mathlib.Omega.{arith}
use lib.ListN.{length, get_or, take, drop}
use lib.Seq.{sets, sets-eq, drop-drop, take-suc, length-take-le}
use Rattle.laws.proofs.Stores.{sets_append}
use Rattle.word.specs.Bytes.{bytes}
use Rattle.word.proofs.Bytes.{length_bytes}

bytes_append : (xs ys : List ℕ) → bytes (xs ++ ys) ≡ bytes xs ++ bytes ys
unfolding bytes
bytes_append [] ys = refl
bytes_append (x ∷ xs) ys = rw (bytes_append xs ys)

-- one word more
bytes_more : (l : List ℕ) (at k : ℕ) (s : List ℕ) → k < length s
    → sets (sets l at (bytes (take k s))) (at + 4 * k) (bytes (get_or s k 0 ∷ [])) ≡ sets l at (bytes (take (k + 1) s))
bytes_more l at k s h =
    let n : length (bytes (take k s)) ≡ 4 * k = length_bytes (take k s) ∙ ap (λ (j : ℕ). 4 * j) (length-take-le k s (omega arith)) in
    rw (add-one, take-suc s k 0, bytes_append, sets_append, n)

-- one word more, by a part of four bytes that is replaced
pub word_more : (out l area part : List ℕ) (at k n : ℕ) → k < length area → at + 4 * k + 4 ≤ length out → n ≡ 4
    → out ≡ sets l at (bytes (take k area)) → part ≡ bytes (get_or area k 0 ∷ [])
    → take (at + 4 * k) out ++ (part ++ drop n (drop (at + 4 * k) out)) ≡ sets l at (bytes (take (k + 1) area))
unfolding bytes
word_more out l area part at k n h r f e p =
    let four : length part ≡ 4 = ap length p in
    let rest : drop n (drop (at + 4 * k) out) ≡ drop (at + 4 * k + length part) out = rw (f, four) (drop-drop 4 (at + 4 * k) out) in
    let more : sets out (at + 4 * k) part ≡ sets l at (bytes (take (k + 1) area)) = rw (e, p) (bytes_more l at k area h) in
    rw (rest, ← append_assoc, ← sets-eq part out (at + 4 * k) (omega arith)) more
