-- Words become bytes, and bytes words, least significant first.
use Rattle.std.specs.Prelude.{ℕ, ◌+◌, ◌*◌, ◌/◌, ◌%◌, ◌^◌, ◌<◌, List, [], ◌∷◌, slice_index}

-- byte k of a word: byte 0 is the lowest, byte 3 the highest
abbrev pub byte : ℕ → ℕ → ℕ
byte k x = x / 2 ^ (8 * k) % 256

-- the word of four bytes
abbrev pub word : ℕ → ℕ → ℕ → ℕ → ℕ
word b₀ b₁ b₂ b₃ = b₀ + 2 ^ 8 * b₁ + 2 ^ 16 * b₂ + 2 ^ 24 * b₃

-- the bytes of a list of words
unfoldable pub bytes : List ℕ → List ℕ
bytes [] = []
bytes (x ∷ l) = byte 0 x ∷ byte 1 x ∷ byte 2 x ∷ byte 3 x ∷ bytes l

-- the words of a string of bytes, four bytes each; bytes that fill no word are left out
unfoldable pub words : List ℕ → List ℕ
words [] = []
words (b₀ ∷ []) = []
words (b₀ ∷ b₁ ∷ []) = []
words (b₀ ∷ b₁ ∷ b₂ ∷ []) = []
words (b₀ ∷ b₁ ∷ b₂ ∷ b₃ ∷ l) = word b₀ b₁ b₂ b₃ ∷ words l

-- a string of bytes, and a list of words: past its end a list reads 0
abbrev pub AllBytes : List ℕ → Type 0
AllBytes l = (k : ℕ) → slice_index l k < 256

abbrev pub AllWords : List ℕ → Type 0
AllWords l = (k : ℕ) → slice_index l k < 2 ^ 32
