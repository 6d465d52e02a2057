-- Document 01, 'Expansion', and step 1 and 2 of section 2.2 of both papers: the list W and the area that it fills.
use Rattle.std.specs.Prelude.{List, [], ◌∷◌, ◌++◌, ℕ, zero, suc, ◌+◌, ◌-◌, ◌/◌, get_or, drop}
use Rattle.word.specs.Word.{f1, f2, ◌⊞◌}
use Rattle.cipher.specs.declared.Cipher.{Cipher}
use Rattle.cipher.specs.Numbers.{table_length, expansion_length}

-- Wi = f2(W(i-2)) + W(i-7) + f1(W(i-15)) + W(i-16) + i, from the list W of the words before it
unfoldable pub next_word : List ℕ → ℕ → ℕ
next_word W i = f2 (get_or W (i - 2) 0) ⊞ get_or W (i - 7) 0 ⊞ f1 (get_or W (i - 15) 0) ⊞ get_or W (i - 16) 0 ⊞ i

-- W0 to W15, which are w, and n words more
unfoldable pub expansion : List ℕ → ℕ → List ℕ
expansion w zero = w
expansion w (suc n) = expansion w n ++ (next_word (expansion w n) (16 + n) ∷ [])

-- P starts at W(T/2), and Q follows P
unfoldable pub filled : Cipher → List ℕ → List ℕ
filled c w = drop (table_length c / 2) (expansion w (expansion_length c - 16))
