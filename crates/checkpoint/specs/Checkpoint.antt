-- Document 01, 'Checkpoint': 'one byte for the cipher code, the position as a number, then 2T words'.
use Rattle.std.specs.Prelude.{List, ◌∷◌, ◌++◌, ℕ, ◌+◌, ◌*◌, length}
use Rattle.word.specs.Bytes.{bytes}
use Rattle.varint.specs.Number.{number}
use Rattle.cipher.specs.declared.Cipher.{Cipher}
use Rattle.cipher.specs.Numbers.{code_of, area_length}

unfoldable pub layout : Cipher → ℕ → List ℕ → List ℕ
layout c position s = code_of c ∷ (number position ++ bytes s)

-- Document 02 (g), the length of a checkpoint: 'exactly 1, plus the groups of the position (1 to 4), plus 4 times 2T'
abbrev pub length_of : Cipher → ℕ → ℕ
length_of c position = 1 + length (number position) + 4 * area_length c

-- 'at most four groups'
abbrev pub most_groups : ℕ
most_groups = 4

-- the longest that a checkpoint is: 4,101 (HC-128) or 8,197 (HC-256)
abbrev pub longest : Cipher → ℕ
longest c = 1 + most_groups + 4 * area_length c
