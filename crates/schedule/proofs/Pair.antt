-- `is_filled` answers true of the areas that a key and an IV fill and of no others, and each has one key and one IV, which `origin` leads back to.
-- Assumes nothing.
use mathlib.Core.Path.{◌≡◌, refl, sym, ap, ◌∙◌}
use Rattle.std.specs.Prelude.{Bool, cond, Result, Ok, Err, MatchResult}
use mathlib.Core.Bool.{true, false, true≢false}
use mathlib.Core.List.{List}
use Prim.Native.Nat.{ℕ}
use lib.ListN.{length}
use Rattle.laws.specs.Same.{same}
use Rattle.laws.proofs.Same.{equal_same, same_equal, and_left, and_right}
use Rattle.word.specs.Bytes.{AllWords}
use Rattle.cipher.specs.declared.Cipher.{Cipher}
use Rattle.cipher.specs.Numbers.{area_length}
use Rattle.schedule.specs.Expansion.{filled}
use Rattle.keys.specs.Key.{Pair, sixteen, key_of, iv_of}
use Rattle.schedule.specs.Origin.{origin, is_filled, if_filled}
use Rattle.schedule.proofs.Unexpansion.{origin_filled, origin_length, origin_words}
use Rattle.keys.proofs.Sixteen.{sixteen_length, sixteen_words, sixteen_doubled, sixteen_back, key_back, iv_back, pair_back}

module _ (c : Cipher) (k v : List ℕ) (pair : Pair c k v) where
  -- the area of a key and an IV leads back to their sixteen words, and answers true
  pub origin_sixteen : origin c (filled c (sixteen c k v)) ≡ sixteen c k v
  origin_sixteen = origin_filled c (sixteen c k v) (sixteen_length c k v pair) (sixteen_words c k v pair)

  pub sixteen_filled : is_filled c (filled c (sixteen c k v)) ≡ true
  unfolding is_filled
  sixteen_filled = rw (origin_sixteen, equal_same (filled c (sixteen c k v)) _ refl) (sixteen_doubled c k v pair)

-- an area that answers false is filled by no key and IV
pub not_filled : (c : Cipher) (s : List ℕ) → is_filled c s ≡ false → (k v : List ℕ) → Pair c k v → s ≡ filled c (sixteen c k v) → ⊥
not_filled c s f k v pair e = true≢false (sym (sixteen_filled c k v pair) ∙ ap (is_filled c) (sym e) ∙ f)

-- no two pairs of key and IV fill the same area
pub filled_unique : (c : Cipher) (k v k' v' : List ℕ) → Pair c k v → Pair c k' v' → filled c (sixteen c k v) ≡ filled c (sixteen c k' v')
    → (k ≡ k') × (v ≡ v')
filled_unique c k v k' v' p q e =
    let w : sixteen c k v ≡ sixteen c k' v' = sym (origin_sixteen c k v p) ∙ ap (origin c) e ∙ origin_sixteen c k' v' q in (
      sym (key_back c k v p) ∙ ap (key_of c) w ∙ key_back c k' v' q,
      sym (iv_back c k v p) ∙ ap (iv_of c) w ∙ iv_back c k' v' q,
    )

module _ (c : Cipher) (s : List ℕ) (long : length s ≡ area_length c) (ok : AllWords s) where
  -- an area that answers true is filled by the key and the IV that it leads back to
  pub origin_pair : Pair c (key_of c (origin c s)) (iv_of c (origin c s))
  origin_pair = pair_back (origin c s) (origin_length c s long ok) (origin_words c s long ok) c

  pub filled_origin : is_filled c s ≡ true → s ≡ filled c (sixteen c (key_of c (origin c s)) (iv_of c (origin c s)))
  unfolding is_filled
  filled_origin e =
      rw (sixteen_back (origin c s) (origin_length c s long ok) (origin_words c s long ok) c (and_right (same s (filled c (origin c s))) _ e))
      (same_equal s (filled c (origin c s)) (and_left _ _ e))

-- what `if_filled` tells of an area
module _ (c : Cipher) (s : List ℕ) where
  if_filled_is : (b : Bool) (x : List ℕ) (r : Result (List ℕ) (List ℕ)) → cond b (Ok x) (Err x) ≡ r
      → MatchResult r (λ w. (b ≡ true) × (w ≡ x)) (λ w. (b ≡ false) × (w ≡ x))
  if_filled_is true x r e = rw (← e) (refl, refl)
  if_filled_is false x r e = rw (← e) (refl, refl)

  pub some_filled : (w : List ℕ) → if_filled c s ≡ Ok w → (is_filled c s ≡ true) × (w ≡ origin c s)
  some_filled w e = if_filled_is (is_filled c s) (origin c s) (Ok w) e

  pub none_filled : (w : List ℕ) → if_filled c s ≡ Err w → is_filled c s ≡ false
  none_filled w e = (if_filled_is (is_filled c s) (origin c s) (Err w) e).0
