-- Document 02 (h): the words that come from a seed, and the calls that they give.
use Rattle.std.specs.Prelude.{cond, List, [], ◌∷◌, ℕ, zero, suc, ◌*◌, ◌/◌, ◌%◌, ◌^◌, eqb}
use Rattle.word.specs.Word.{◌⊕◌, S}

-- a word shifted left by n bits and 'cut to 32 bits'
abbrev pub shifted_left : (n x : ℕ) → ℕ
shifted_left n x = x * 2 ^ n % 2 ^ 32

-- 'a word x becomes x ^ (x shifted left 13), then ^ (shifted right 17), then ^ (shifted left 5), each shift being of the word so far'
unfoldable pub next_word : ℕ → ℕ
next_word x =
    let first = x ⊕ shifted_left 13 x in
    let second = first ⊕ S 17 first in
    second ⊕ shifted_left 5 second

-- a generated call
pub data GeneratedCall : Type 0 where
  move_to_byte : (byte : ℕ) → GeneratedCall
  cipher_zeros : (n : ℕ) → GeneratedCall

-- 'Each new word w gives one call: even, a move to byte (w/2) mod 4,096; odd, a cipher call over (w/2) mod 257 zero bytes, halves cut down.'
unfoldable pub call_of : (w : ℕ) → GeneratedCall
call_of w = cond (eqb (w % 2) 0) (move_to_byte (w / 2 % 4096)) (cipher_zeros (w / 2 % 257))

-- the calls of the n new words that come from a word: the first call is that of the first new word, and not that of the seed
unfoldable pub generated_calls : (word n : ℕ) → List GeneratedCall
generated_calls word zero = []
generated_calls word (suc n) = call_of (next_word word) ∷ generated_calls (next_word word) n
