-- W0..15 of a key and an IV are words, stand twice where they have to, and give the key and the IV back; and sixteen words that stand twice
-- where they have to are those of their own key and IV. Assumes nothing.
use mathlib.Core.Path.{◌≡◌, refl, sym, ap, ◌∙◌}
use mathlib.Core.Bool.{true, ◌&&◌}
use mathlib.Core.List.{List, [], ◌∷◌, ◌++◌, append_assoc}
use mathlib.Core.Logic.{⊎_elim}
use Prim.Native.Nat.{ℕ, ◌+◌, ◌*◌, ◌/◌, ◌%◌, ◌≤◌, ◌<◌}
use native.Mathlib.Omega.{arith}
use lib.ListN.{length, get_or, take, drop, length-append, length-drop, take-append-drop, get_or-append}
use lib.Dec.{eqb}
use lib.Pointwise.{pointwise}
use lib.Seq.{take_at, drop_at, take-add, take_all, take-append-le, drop-drop, get_or-append-add, length-take-le, get_or-take, get_or-drop, ext_get_or}
use Rattle.laws.specs.Same.{same}
use Rattle.laws.proofs.Same.{equal_same, same_equal, and_left, and_right}
use Rattle.laws.proofs.Lists.{append_below, take_below, drop_below, part_length, below_or_not}
use Rattle.word.specs.Bytes.{bytes, words, AllBytes, AllWords}
use Rattle.word.proofs.Bytes.{words_bytes, bytes_words, length_bytes, length_words, words_lt, bytes_lt}
use Rattle.cipher.specs.declared.Cipher.{Cipher}
use Rattle.cipher.specs.declared.Cipher.TheVariants.{Hc128, Hc256}
use Rattle.cipher.specs.Numbers.{key_length, iv_length}
use Rattle.keys.specs.Key.{Pair, sixteen, doubled, key_of, iv_of}

-- the eight words of a key, and of an IV
eight : Cipher → List ℕ → List ℕ
eight Hc128 b = words b ++ words b
eight Hc256 b = words b

sixteen_eight : (c : Cipher) (key iv : List ℕ) → sixteen c key iv ≡ eight c key ++ eight c iv
unfolding sixteen eight
sixteen_eight Hc128 key iv = refl
sixteen_eight Hc256 key iv = refl

-- a key and an IV are of one length, from four to thirty-two bytes in words
pub key_size : (c : Cipher) → (key_length c ≡ 4 * (key_length c / 4)) × (key_length c / 4 ≤ 8) × (0 < key_length c / 4) × (iv_length c ≡ key_length c)
key_size Hc128 = omega arith
key_size Hc256 = omega arith

module _ (b : List ℕ) where
  words_long : (c : Cipher) → length b ≡ key_length c → length (words b) ≡ key_length c / 4
  words_long c n = let h = key_size c in length_words (key_length c / 4) b (omega arith)

  eight_length : (c : Cipher) → length b ≡ key_length c → length (eight c b) ≡ 8
  unfolding eight
  eight_length Hc128 n = rw (length-append, words_long Hc128 n)
  eight_length Hc256 n = words_long Hc256 n

  eight_take : (c : Cipher) → length b ≡ key_length c → take (key_length c / 4) (eight c b) ≡ words b
  unfolding eight
  eight_take Hc128 n = take_at (words b) (words b) 4 (words_long Hc128 n)
  eight_take Hc256 n = take_all 8 (words b) (let h = words_long Hc256 n in omega arith)

  eight_words_lem : (c : Cipher) → AllBytes b → AllWords (eight c b)
  unfolding eight
  eight_words_lem Hc128 ok = append_below (words b) (words b) (words_lt b ok) (words_lt b ok)
  eight_words_lem Hc256 ok = words_lt b ok

  -- word k of the eight is word k mod 4 or k mod 8 of b
  eight_at : (c : Cipher) → length b ≡ key_length c → (k : ℕ) → k < 8 → get_or (eight c b) k 0 ≡ get_or (words b) (k % (key_length c / 4)) 0
  unfolding eight
  eight_at Hc256 n k l = let e : k % 8 ≡ k = omega arith in rw e
  eight_at Hc128 n k l =
      let h = words_long Hc128 n in
      ⊎_elim
      (λ m. let e : k % 4 ≡ k = omega arith in rw e (get_or-append (words b) (words b) 0 k (omega arith)))
      (λ m.
      let e : k ≡ length (words b) + k % 4 = omega arith in
      ap (λ (z : ℕ). get_or (words b ++ words b) z 0) e ∙ get_or-append-add (words b) (words b) (k % 4) 0)
      (below_or_not k 4)

module _ (c : Cipher) (key iv : List ℕ) (pair : Pair c key iv) where
  iv_size : length iv ≡ key_length c
  iv_size = let h = key_size c in let l = pair.iv_long in omega arith

  pub sixteen_length : length (sixteen c key iv) ≡ 16
  sixteen_length = rw (sixteen_eight, length-append, eight_length key c pair.key_long, eight_length iv c iv_size)

  pub sixteen_words : AllWords (sixteen c key iv)
  sixteen_words k =
      rw sixteen_eight (append_below (eight c key) (eight c iv) (eight_words_lem key c pair.key_bytes) (eight_words_lem iv c pair.iv_bytes) k)

  pub key_back : key_of c (sixteen c key iv) ≡ key
  unfolding key_of
  key_back =
      let h = key_size c in
      let n = eight_length key c pair.key_long in
      rw (sixteen_eight, take-append-le (key_length c / 4) (eight c key) (eight c iv) (omega arith), eight_take key c pair.key_long)
      (bytes_words (key_length c / 4) key (let l = pair.key_long in omega arith) pair.key_bytes)

  pub iv_back : iv_of c (sixteen c key iv) ≡ iv
  unfolding iv_of
  iv_back =
      let h = key_size c in
      let e : iv_length c ≡ key_length c = omega arith in
      rw (sixteen_eight, drop_at (eight c key) (eight c iv) 8 (eight_length key c pair.key_long), e, eight_take iv c iv_size)
      (bytes_words (key_length c / 4) iv (let l = iv_size in omega arith) pair.iv_bytes)

doubled_four : (a b : List ℕ) → length a ≡ 4 → length b ≡ 4 → doubled Hc128 (a ++ a ++ (b ++ b)) ≡ true
unfolding doubled
doubled_four a b n m =
    let w = a ++ a ++ (b ++ b) in
    let key : take 4 w ≡ a = rw append_assoc (take_at a (a ++ (b ++ b)) 4 n) in
    let key' : take 4 (drop 4 w) ≡ a = rw (append_assoc, drop_at a (a ++ (b ++ b)) 4 n) (take_at a (b ++ b) 4 n) in
    let half : drop 8 w ≡ b ++ b = drop_at (a ++ a) (b ++ b) 8 (rw (length-append, n)) in
    let iv : take 4 (drop 8 w) ≡ b = rw half (take_at b b 4 m) in
    let iv' : drop 12 w ≡ b = sym (drop-drop 4 8 w) ∙ (rw half (drop_at b b 4 m)) in
    rw (equal_same (take 4 w) (take 4 (drop 4 w)) (key ∙ sym key'))
    (equal_same (take 4 (drop 8 w)) (drop 12 w) (iv ∙ sym iv'))

pub sixteen_doubled : (c : Cipher) (key iv : List ℕ) → Pair c key iv → doubled c (sixteen c key iv) ≡ true
unfolding doubled sixteen
sixteen_doubled Hc128 key iv pair =
    doubled_four (words key) (words iv) (words_long key Hc128 pair.key_long) (words_long iv Hc128 pair.iv_long)
sixteen_doubled Hc256 key iv pair = refl

module _ (w : List ℕ) (long : length w ≡ 16) (ok : AllWords w) where
  words_part : (n a : ℕ) → words (bytes (take n (drop a w))) ≡ take n (drop a w)
  words_part n a = words_bytes (take n (drop a w)) (take_below n (drop a w) (drop_below a w ok))

  pub sixteen_back : (c : Cipher) → doubled c w ≡ true → sixteen c (key_of c w) (iv_of c w) ≡ w
  unfolding doubled sixteen key_of iv_of
  sixteen_back Hc128 d =
      let key : take 4 w ++ take 4 w ≡ take 8 w =
      ap (λ (l : List ℕ). take 4 w ++ l) (same_equal _ _ (and_left _ _ d)) ∙ sym (take-add 4 4 w) in
      let iv : take 4 (drop 8 w) ++ take 4 (drop 8 w) ≡ drop 8 w =
      ap (λ (l : List ℕ). take 4 (drop 8 w) ++ l) (same_equal _ _ (and_right (same (take 4 w) (take 4 (drop 4 w))) _ d) ∙ sym (drop-drop 4 8 w))
      ∙ take-append-drop 4 (drop 8 w) in
      rw (words_part 4 0, words_part 4 8, key, iv) (take-append-drop 8 w)
  sixteen_back Hc256 d =
      rw (words_part 8 0, words_part 8 8, take_all 8 (drop 8 w) (rw length-drop (omega arith))) (take-append-drop 8 w)

  pub pair_back : (c : Cipher) → Pair c (key_of c w) (iv_of c w)
  unfolding key_of iv_of
  pair_back c =
      let h = key_size c in record {
        key_long = rw (length_bytes, part_length (key_length c / 4) 0 w (omega arith)) (omega arith);
        iv_long = rw (length_bytes, part_length (iv_length c / 4) 8 w (omega arith)) (omega arith);
        key_bytes = bytes_lt (take (key_length c / 4) w);
        iv_bytes = bytes_lt (take (iv_length c / 4) (drop 8 w));
      }

-- sixteen words, of which word k of each half is word k mod 4 or k mod 8 of the key or the IV
pub sixteen_is : (c : Cipher) (key iv w : List ℕ) → length key ≡ key_length c → length iv ≡ iv_length c → length w ≡ 16
    → ((k : ℕ) → k < 8 → get_or w k 0 ≡ get_or (words key) (k % (key_length c / 4)) 0)
    → ((k : ℕ) → k < 8 → get_or w (8 + k) 0 ≡ get_or (words iv) (k % (key_length c / 4)) 0)
    → w ≡ sixteen c key iv
sixteen_is c key iv w n m long low high =
    let h = key_size c in
    let e : length iv ≡ key_length c = omega arith in
    let l : length (take 8 w) ≡ 8 = length-take-le 8 w (omega arith) in
    let r : length (drop 8 w) ≡ 8 = rw (length-drop, long) in
    let first : take 8 w ≡ eight c key =
    ext_get_or 0 (take 8 w) (eight c key) (l ∙ sym (eight_length key c n))
    (λ k b. let d : k < 8 = omega arith in get_or-take 8 w k 0 d ∙ low k d ∙ sym (eight_at key c n k d)) in
    let second : drop 8 w ≡ eight c iv =
    ext_get_or 0 (drop 8 w) (eight c iv) (r ∙ sym (eight_length iv c e))
    (λ k b. let d : k < 8 = omega arith in get_or-drop 8 w k 0 ∙ high k d ∙ sym (eight_at iv c e k d)) in
    rw (sixteen_eight, ← first, ← second) (sym (take-append-drop 8 w))

-- what `==` tells of two slices
same_is : (l m : List ℕ) → same l m ≡ pointwise eqb l m
unfolding same
same_is [] [] = refl
same_is [] (b ∷ m) = refl
same_is (a ∷ l) [] = refl
same_is (a ∷ l) (b ∷ m) = rw (same_is l m) refl

-- the two comparisons of four words for HC-128
pub doubled_is : (w : List ℕ) → length w ≡ 16
    → doubled Hc128 w ≡ pointwise eqb (take 4 w) (take 4 (drop 4 w)) && pointwise eqb (take 4 (drop 8 w)) (take 4 (drop 12 w))
unfolding doubled
doubled_is w n =
    let last : take 4 (drop 12 w) ≡ drop 12 w = take_all 4 (drop 12 w) (rw (length-drop, n) (omega arith)) in
    rw (← same_is (take 4 w) _, ← same_is (take 4 (drop 8 w)) _, last) refl
