-- Document 01's 'number' (LEB128 in shortest form): 'groups of seven bits, lowest first; the top bit of a byte says that another group
-- follows; the last group is not 0, except in the single byte of number 0'.
use Rattle.std.specs.Prelude.{cond, List, [], ◌∷◌, ℕ, zero, suc, ◌+◌, ◌-◌, ◌*◌, ◌/◌, ◌%◌, leb, ltb}

-- at most k groups: 'a number is written group by group until the quotient is 0'
unfoldable pub groups : ℕ → ℕ → List ℕ
groups zero n = []
groups (suc k) n = cond (ltb n 128) (n ∷ []) ((n % 128 + 128) ∷ groups k (n / 128))

-- a number of 64 bits has at most ten groups
unfoldable pub number : ℕ → List ℕ
number n = groups 10 n

-- what stands at the start of a string: a number and the bytes after it; the string's end before the last group; or a number that is not in
-- shortest form, or whose last group that there may be announces another
pub data Reading : Type 0 where
  is : (value : ℕ) (rest : List ℕ) → Reading
  ended : Reading
  malformed : Reading

-- a group that announced another, before what was found of the others
abbrev pub before : ℕ → Reading → Reading
before b (is value rest) = is (b - 128 + 128 * value) rest
before b ended = ended
before b malformed = malformed

-- the groups of a number at the start of a string, at most k of them, the last of which is not below `least`
unfoldable pub read_groups : ℕ → ℕ → List ℕ → Reading
read_groups zero least s = malformed
read_groups (suc k) least [] = ended
read_groups (suc k) least (b ∷ s) = cond (ltb b 128) (cond (leb least b) (is b s) malformed) (before b (read_groups k 1 s))

-- a number of at most k groups at the start of a string: its first group may be 0 where it is the last, a later one not
abbrev pub read_number : ℕ → List ℕ → Reading
read_number k s = read_groups k 0 s
