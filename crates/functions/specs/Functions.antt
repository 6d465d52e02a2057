-- The functions g and h of the two ciphers. B is the table that is looked up, as a function of an index.
use Rattle.std.specs.Prelude.{Bool, true, false, List, ℕ, ◌+◌, ◌%◌, get_or}
use Rattle.word.specs.Word.{◌⊞◌, ◌⊕◌, R, L}
use Rattle.word.specs.Bytes.{byte}

-- the table that begins at a place of the area, as a function of its index
abbrev pub table : List ℕ → ℕ → ℕ → ℕ
table s start k = get_or s (start + k) 0

-- where B begins in an area of two tables of T words, P then Q: at Q where P changes, else at P
abbrev pub start_b : ℕ → Bool → ℕ
start_b T true = T
start_b T false = 0

-- HC-128: 'for P, g(x,y,z) = (R10(x) ^ R23(z)) + R8(y); for Q the same with L for R'; rot is R or L
abbrev pub g128 : (ℕ → ℕ → ℕ) → ℕ → ℕ → ℕ → ℕ
g128 rot x y z = (rot 10 x ⊕ rot 23 z) ⊞ rot 8 y

-- HC-128 rotates right in P and left in Q
abbrev pub rotation : Bool → ℕ → ℕ → ℕ
rotation true = R
rotation false = L

-- HC-256: 'g(x,y) = (R10(x) ^ R23(y)) + B[(x ^ y) mod 1024]', R in both tables
abbrev pub g256 : (ℕ → ℕ) → ℕ → ℕ → ℕ
g256 B x y = (R 10 x ⊕ R 23 y) ⊞ B ((x ⊕ y) % 1024)

-- HC-128: 'h(x) = B[x0] + B[256+x2]'
abbrev pub h128 : (ℕ → ℕ) → ℕ → ℕ
h128 B x = B (byte 0 x) ⊞ B (256 + byte 2 x)

-- HC-256: 'h(x) = B[x0] + B[256+x1] + B[512+x2] + B[768+x3]'
abbrev pub h256 : (ℕ → ℕ) → ℕ → ℕ
h256 B x = B (byte 0 x) ⊞ B (256 + byte 1 x) ⊞ B (512 + byte 2 x) ⊞ B (768 + byte 3 x)
