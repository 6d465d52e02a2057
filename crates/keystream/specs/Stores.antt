-- How the code goes by words: exclusive or of lent bytes with bytes of a word. Only the contracts of this crate's own parts cite it.
use Rattle.std.specs.Prelude.{◌≡◌, List, ℕ, zero, suc, ◌+◌, ◌-◌, ◌*◌, ◌%◌, min, length, get_or, set}
use Rattle.laws.specs.Iterate.{forward}
use Rattle.word.specs.Word.{◌⊕◌}
use Rattle.word.specs.Bytes.{byte}
use Rattle.steps.specs.Steps.{steps_at}

-- the byte at place start + k with byte from + k of the word w
abbrev pub xor_byte : ℕ → ℕ → ℕ → List ℕ → ℕ → List ℕ
xor_byte start w from bs k = set bs (start + k) (get_or bs (start + k) 0 ⊕ byte (from + k) w)

-- n bytes from place start on with the bytes of w from byte `from` on
abbrev pub xor_part : ℕ → ℕ → ℕ → ℕ → List ℕ → List ℕ
xor_part start n w from bs = forward (xor_byte start w from) bs 0 n

-- ---- f takes the numbered steps, and o gives the output of a step from the area after it

-- the four bytes at place start + 4 k with the output of step i + k, where s is the area before step i
abbrev pub xor_word : (List ℕ → ℕ → List ℕ) → (List ℕ → ℕ → ℕ) → List ℕ → ℕ → ℕ → List ℕ → ℕ → List ℕ
xor_word f o s i start bs k = xor_part (start + 4 * k) 4 (o (forward f s i (k + 1)) (i + k)) 0 bs

-- the output of the last of n steps from step i on, where s is the area after them; w where there are none
unfoldable pub last_of : (List ℕ → ℕ → ℕ) → ℕ → List ℕ → ℕ → ℕ → ℕ
last_of o w s i zero = w
last_of o w s i (suc n) = o s (i + n)

-- how many of n bytes from position p on lie in the word that p is inside; none where a word begins at p
abbrev pub in_word : ℕ → ℕ → ℕ
in_word p n = min ((4 - p % 4) % 4) n

-- ---- what the parts of a cipher call leave of the area s and the bytes bs, with the last output

-- the r bytes that end the word w, which position p is inside
abbrev pub Finished : List ℕ → ℕ → ℕ → ℕ → List ℕ → Type 0
Finished bs p w r done = (r ≡ in_word p (length bs)) × (done ≡ xor_part 0 (in_word p (length bs)) w (p % 4) bs)

-- n whole words from place start on, with the outputs of the steps from step i on
abbrev pub Worded : (List ℕ → ℕ → List ℕ) → (List ℕ → ℕ → ℕ) → List ℕ → List ℕ → ℕ → ℕ → ℕ → ℕ → List ℕ → List ℕ → ℕ → Type 0
Worded f o s bs i start n w stepped done last =
    (stepped ≡ forward f s i n) × (done ≡ forward (xor_word f o s i start) bs 0 n) × (last ≡ last_of o w stepped i n)

-- the last n bytes, fewer than four, with the first bytes of the output of step i
abbrev pub Begun : (List ℕ → ℕ → List ℕ) → (List ℕ → ℕ → ℕ) → List ℕ → List ℕ → ℕ → ℕ → ℕ → List ℕ → List ℕ → ℕ → Type 0
Begun f o s bs i n w stepped done last =
    (stepped ≡ forward f s i (steps_at n)) × (done ≡ xor_part (length bs - n) n (o (f s i) i) 0 bs) × (last ≡ last_of o w stepped i (steps_at n))
