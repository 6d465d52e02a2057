-- Step i of a cipher on an area s, its inverse, and its output.
use Rattle.std.specs.Prelude.{List, ℕ, ◌+◌, set}
use Rattle.word.specs.Word.{◌⊞◌, ◌⊟◌, ◌⊕◌}
use Rattle.cipher.specs.declared.Cipher.{Cipher}
use Rattle.cipher.specs.declared.Cipher.TheVariants.{Hc128, Hc256}
use Rattle.cipher.specs.Numbers.{table_length}
use Rattle.functions.specs.Functions.{table, start_b, rotation, g128, g256, h128, h256}
use Rattle.tables.specs.declared.Indices.{Indices}
use Rattle.tables.specs.Area.{changes_p, start_a, indices_at}

-- the changing table A and the other table B at step i, for tables of T words
abbrev pub A : ℕ → List ℕ → ℕ → ℕ → ℕ
A T s i = table s (start_a T (changes_p T i))

abbrev pub B : ℕ → List ℕ → ℕ → ℕ → ℕ
B T s i = table s (start_b T (changes_p T i))

-- HC-128: 'A[j] grows by g(A[j-3], A[j-10], A[j+1])'
abbrev pub feedback128 : (ℕ → ℕ → ℕ) → (ℕ → ℕ) → Indices → ℕ
feedback128 rot A x = g128 rot (A x.minus3) (A x.minus10) (A x.plus1)

-- HC-256: 'A[j] grows by A[j-10] + g(A[j-3], A[j+1])'
abbrev pub feedback256 : (ℕ → ℕ) → (ℕ → ℕ) → Indices → ℕ
feedback256 A B x = A x.minus10 ⊞ g256 B (A x.minus3) (A x.plus1)

-- what A[j] grows by at step i
unfoldable pub feedback : Cipher → List ℕ → ℕ → ℕ
feedback Hc128 s i = feedback128 (rotation (changes_p 512 i)) (A 512 s i) (indices_at 512 i)
feedback Hc256 s i = feedback256 (A 1024 s i) (B 1024 s i) (indices_at 1024 i)

-- h(A[j-12]) at step i
unfoldable pub filter : Cipher → List ℕ → ℕ → ℕ
filter Hc128 s i = h128 (B 512 s i) (A 512 s i (indices_at 512 i).minus12)
filter Hc256 s i = h256 (B 1024 s i) (A 1024 s i (indices_at 1024 i).minus12)

-- the place of A[j] in the area, and A[j]
abbrev pub place : Cipher → ℕ → ℕ
place c i = start_a (table_length c) (changes_p (table_length c) i) + (indices_at (table_length c) i).j

abbrev pub changing : Cipher → List ℕ → ℕ → ℕ
changing c s i = A (table_length c) s i (indices_at (table_length c) i).j

-- step i: A[j] grows by the feedback
unfoldable pub step : Cipher → List ℕ → ℕ → List ℕ
step c s i = set s (place c i) (changing c s i ⊞ feedback c s i)

-- step i undone
unfoldable pub step_back : Cipher → List ℕ → ℕ → List ℕ
step_back c s i = set s (place c i) (changing c s i ⊟ feedback c s i)

-- 'the output is h(A[j-12]) ^ A[j], with A[j] already changed': s is the area after step i
unfoldable pub output : Cipher → List ℕ → ℕ → ℕ
output c s i = filter c s i ⊕ changing c s i
