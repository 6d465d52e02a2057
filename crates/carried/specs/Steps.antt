-- Steps that are taken with five given indices, and those of a cipher call, each with the five that it has carried there.
use Rattle.std.specs.Prelude.{Bool, List, ℕ, ◌+◌, set}
use Rattle.word.specs.Word.{◌⊞◌, ◌⊕◌}
use Rattle.cipher.specs.declared.Cipher.{Cipher}
use Rattle.cipher.specs.Numbers.{table_length}
use Rattle.functions.specs.Functions.{table}
use Rattle.functions.specs.ByCipher.{feedback_of, filter_of}
use Rattle.tables.specs.declared.Indices.{Indices}
use Rattle.tables.specs.Area.{changes_p, start_a}
use Rattle.carried.specs.Carried.{five_of}

-- the changing table A, where p tells whether P changes
abbrev pub A : Cipher → Bool → List ℕ → ℕ → ℕ
A c p s = table s (start_a (table_length c) p)

-- a step with the five x: A[j] grows by the feedback of A[j-3], A[j-10] and A[j+1]
unfoldable pub step_with : Cipher → Bool → List ℕ → Indices → List ℕ
step_with c p s x =
    set s (start_a (table_length c) p + x.j)
    (A c p s x.j ⊞ feedback_of c p s (A c p s x.minus3) (A c p s x.minus10) (A c p s x.plus1))

-- its output, h(A[j-12]) ^ A[j], from the area after it
unfoldable pub output_with : Cipher → Bool → List ℕ → Indices → ℕ
output_with c p s x = filter_of c p s (A c p s x.minus12) ⊕ A c p s x.j

-- step k of a cipher call whose first step is step i
abbrev pub call_step : Cipher → ℕ → List ℕ → ℕ → List ℕ
call_step c i s k = step_with c (changes_p (table_length c) (i + k)) s (five_of (table_length c) i k)

abbrev pub call_output : Cipher → ℕ → List ℕ → ℕ → ℕ
call_output c i s k = output_with c (changes_p (table_length c) (i + k)) s (five_of (table_length c) i k)
