-- Words made of bytes and bytes made of words, there and back, and element by element. Assumes nothing.
use Rattle.std.proofs.Common.{◌≡◌, ℕ, zero, suc, ◌+◌, ◌*◌, ◌/◌, ◌%◌, ◌^◌, ◌<◌, List, [], ◌∷◌, length, get_or, sym, refl, ap, ◌∙◌, ap₂, arith, ext_get_or}
use Rattle.word.specs.Bytes.{byte, word, bytes, words, AllBytes, AllWords}

-- ---- one word

module _ (a b c d : ℕ) (ha : a < 256) (hb : b < 256) (hc : c < 256) (hd : d < 256) where
  byte_0 : byte 0 (word a b c d) ≡ a
  byte_0 = omega arith

  byte_1 : byte 1 (word a b c d) ≡ b
  byte_1 = omega arith

  byte_2 : byte 2 (word a b c d) ≡ c
  byte_2 = omega arith

  byte_3 : byte 3 (word a b c d) ≡ d
  byte_3 = omega arith

  word_lt : word a b c d < 2 ^ 32
  word_lt = omega arith

-- a number split at its lowest byte, from the second byte on and from the third on
split_0 : (x : ℕ) → x / 1 % 256 + 256 * (x / 256) ≡ x
split_0 x = omega arith

split_1 : (x : ℕ) → x / 256 % 256 + 256 * (x / 65536) ≡ x / 256
split_1 x = omega arith

split_2 : (x : ℕ) → x / 65536 % 256 + 256 * (x / 16777216) ≡ x / 65536
split_2 x = omega arith

join : (a b c r s t u x : ℕ) → r + 256 * a ≡ x → s + 256 * b ≡ a → t + 256 * c ≡ b → u ≡ c → word r s t u ≡ x
join a b c r s t u x p q v y = omega arith

pub word_of_bytes : (x : ℕ) → x < 2 ^ 32 → word (byte 0 x) (byte 1 x) (byte 2 x) (byte 3 x) ≡ x
word_of_bytes x l = join (x / 256) (x / 65536) (x / 16777216) _ _ _ _ x (split_0 x) (split_1 x) (split_2 x) (omega arith)

-- ---- lists

pub words_bytes : (l : List ℕ) → AllWords l → words (bytes l) ≡ l
unfolding words bytes
words_bytes [] ok = refl
words_bytes (x ∷ l) ok = ap₂ ◌∷◌ (word_of_bytes x (ok 0)) (words_bytes l (λ k. ok (suc k)))

pub bytes_words : (n : ℕ) (b : List ℕ) → length b ≡ 4 * n → AllBytes b → bytes (words b) ≡ b
unfolding words bytes
bytes_words zero [] e ok = refl
bytes_words zero (a ∷ b) e ok = absurd (omega arith)
bytes_words (suc n) [] e ok = absurd (omega arith)
bytes_words (suc n) (a ∷ []) e ok = absurd (omega arith)
bytes_words (suc n) (a ∷ b ∷ []) e ok = absurd (omega arith)
bytes_words (suc n) (a ∷ b ∷ c ∷ []) e ok = absurd (omega arith)
bytes_words (suc n) (a ∷ b ∷ c ∷ d ∷ l) e ok =
    let ha = ok 0 in
    let hb = ok 1 in
    let hc = ok 2 in
    let hd = ok 3 in
    rw (byte_0 a b c d ha hb hc hd, byte_1 a b c d ha hb hc hd, byte_2 a b c d ha hb hc hd, byte_3 a b c d ha hb hc hd)
    (ap (λ (z : List ℕ). a ∷ b ∷ c ∷ d ∷ z) (bytes_words n l (omega arith) (λ k. ok (suc (suc (suc (suc k)))))))

pub length_bytes : (l : List ℕ) → length (bytes l) ≡ 4 * length l
unfolding bytes
length_bytes [] = refl
length_bytes (x ∷ l) = let h = length_bytes l in omega arith

pub length_words : (n : ℕ) (b : List ℕ) → length b ≡ 4 * n → length (words b) ≡ n
unfolding words
length_words zero [] e = refl
length_words zero (a ∷ b) e = absurd (omega arith)
length_words (suc n) [] e = absurd (omega arith)
length_words (suc n) (a ∷ []) e = absurd (omega arith)
length_words (suc n) (a ∷ b ∷ []) e = absurd (omega arith)
length_words (suc n) (a ∷ b ∷ c ∷ []) e = absurd (omega arith)
length_words (suc n) (a ∷ b ∷ c ∷ d ∷ l) e = ap suc (length_words n l (omega arith))

four_on : (k r : ℕ) → 4 * suc k + r ≡ suc (suc (suc (suc (4 * k + r))))
four_on k r = omega arith

-- word k of a string of bytes
pub words_at : (b : List ℕ) (k : ℕ) → 4 * k + 3 < length b
    → get_or (words b) k 0 ≡ word (get_or b (4 * k) 0) (get_or b (4 * k + 1) 0) (get_or b (4 * k + 2) 0) (get_or b (4 * k + 3) 0)
unfolding words
words_at [] k l = absurd (omega arith)
words_at (a ∷ []) k l = absurd (omega arith)
words_at (a ∷ b ∷ []) k l = absurd (omega arith)
words_at (a ∷ b ∷ c ∷ []) k l = absurd (omega arith)
words_at (a ∷ b ∷ c ∷ d ∷ m) zero l = refl
words_at (a ∷ b ∷ c ∷ d ∷ m) (suc k) l =
    let z : 4 * suc k ≡ suc (suc (suc (suc (4 * k)))) = omega arith in
    rw (four_on k 1, four_on k 2, four_on k 3, z) (words_at m k (omega arith))

pub words_lt : (b : List ℕ) → AllBytes b → AllWords (words b)
unfolding words
words_lt [] ok k = omega arith
words_lt (a ∷ []) ok k = omega arith
words_lt (a ∷ b ∷ []) ok k = omega arith
words_lt (a ∷ b ∷ c ∷ []) ok k = omega arith
words_lt (a ∷ b ∷ c ∷ d ∷ l) ok zero = word_lt a b c d (ok 0) (ok 1) (ok 2) (ok 3)
words_lt (a ∷ b ∷ c ∷ d ∷ l) ok (suc k) = words_lt l (λ j. ok (suc (suc (suc (suc j))))) k

-- byte 4 k + r of a list of words
pub bytes_at : (l : List ℕ) (k r : ℕ) → r < 4 → get_or (bytes l) (4 * k + r) 0 ≡ byte r (get_or l k 0)
unfolding bytes
bytes_at [] k zero h = refl
bytes_at [] k (suc zero) h = refl
bytes_at [] k (suc (suc zero)) h = refl
bytes_at [] k (suc (suc (suc zero))) h = refl
bytes_at [] k (suc (suc (suc (suc r)))) h = absurd (omega arith)
bytes_at (x ∷ l) zero zero h = refl
bytes_at (x ∷ l) zero (suc zero) h = refl
bytes_at (x ∷ l) zero (suc (suc zero)) h = refl
bytes_at (x ∷ l) zero (suc (suc (suc zero))) h = refl
bytes_at (x ∷ l) zero (suc (suc (suc (suc r)))) h = absurd (omega arith)
bytes_at (x ∷ l) (suc k) r h = rw (four_on k r) (bytes_at l k r h)

-- a string of bytes whose byte j is byte j mod 4 of word j / 4
pub bytes_are : (b l : List ℕ) → length b ≡ 4 * length l
    → ((j : ℕ) → j < length b → get_or b j 0 ≡ byte (j % 4) (get_or l (j / 4) 0)) → b ≡ bytes l
bytes_are b l n h =
    ext_get_or 0 b (bytes l) (n ∙ sym (length_bytes l))
    (λ j r.
    let e : j ≡ 4 * (j / 4) + j % 4 = omega arith in
    h j r ∙ sym (ap (λ (z : ℕ). get_or (bytes l) z 0) e ∙ bytes_at l (j / 4) (j % 4) (omega arith)))

pub bytes_lt : (l : List ℕ) → AllBytes (bytes l)
unfolding bytes
bytes_lt [] k = omega arith
bytes_lt (x ∷ l) zero = omega arith
bytes_lt (x ∷ l) (suc zero) = omega arith
bytes_lt (x ∷ l) (suc (suc zero)) = omega arith
bytes_lt (x ∷ l) (suc (suc (suc zero))) = omega arith
bytes_lt (x ∷ l) (suc (suc (suc (suc k)))) = bytes_lt l k
