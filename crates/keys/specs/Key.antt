-- Document 01, 'Expansion': W0..7 is the key and W8..15 the IV; and key and IV back from them.
use Rattle.std.specs.Prelude.{◌≡◌, Bool, true, ◌&&◌, List, ◌++◌, ℕ, ◌/◌, length, take, drop}
use Rattle.laws.specs.Same.{same}
use Rattle.word.specs.Bytes.{bytes, words, AllBytes}
use Rattle.cipher.specs.declared.Cipher.{Cipher}
use Rattle.cipher.specs.declared.Cipher.TheVariants.{Hc128, Hc256}
use Rattle.cipher.specs.Numbers.{key_length, iv_length}

-- a key and an IV of the cipher's lengths
pub record Pair (c : Cipher) (key iv : List ℕ) : Type 0 where
  pub key_long : length key ≡ key_length c
  pub iv_long : length iv ≡ iv_length c
  pub key_bytes : AllBytes key
  pub iv_bytes : AllBytes iv

-- W0..15: for HC-128 the four key words stand twice, then the four IV words twice
unfoldable pub sixteen : Cipher → List ℕ → List ℕ → List ℕ
sixteen Hc128 key iv = words key ++ words key ++ (words iv ++ words iv)
sixteen Hc256 key iv = words key ++ words iv

-- whether the words that have to stand twice do
unfoldable pub doubled : Cipher → List ℕ → Bool
doubled Hc128 w = same (take 4 w) (take 4 (drop 4 w)) && same (take 4 (drop 8 w)) (drop 12 w)
doubled Hc256 w = true

-- the key and the IV of sixteen words
unfoldable pub key_of : Cipher → List ℕ → List ℕ
key_of c w = bytes (take (key_length c / 4) w)

unfoldable pub iv_of : Cipher → List ℕ → List ℕ
iv_of c w = bytes (take (iv_length c / 4) (drop 8 w))
