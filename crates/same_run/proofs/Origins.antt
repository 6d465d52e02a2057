-- What a checkpoint's string leads back to, and that two times sixteen words are the same exactly where their keys and IVs are. Assumes nothing.
use mathlib.Core.Path.{◌≡◌, refl, sym, ap, ap₂, ◌∙◌}
use mathlib.Core.Bool.{true, ◌&&◌}
use mathlib.Core.List.{List}
use Prim.Native.Nat.{ℕ}
use lib.Dec.{eqb}
use lib.ListN.{length}
use lib.Pointwise.{pointwise, bytes_decides}
use Rattle.std.specs.Prelude.{Ok, Err}
use Rattle.laws.specs.Same.{same}
use Rattle.laws.specs.Result.{refused}
use Rattle.laws.proofs.Same.{and_left, and_right, true_alike, equal_same, same_equal}
use Rattle.word.specs.Bytes.{words, AllWords}
use Rattle.cipher.specs.declared.Cipher.{Cipher}
use Rattle.keys.specs.Key.{sixteen, doubled, key_of, iv_of}
use Rattle.keys.proofs.Sixteen.{sixteen_back}
use Rattle.schedule.specs.Expansion.{filled}
use Rattle.schedule.specs.Origin.{origin, is_filled}
use Rattle.schedule.proofs.Pair.{some_filled, none_filled}
use Rattle.recovery.specs.Recovery.{filled_at, found_at}
use Rattle.conditions.specs.Conditions.{load_found, string_check}
use Rattle.conditions.proofs.Undo.{none_at, found_at as key_at}
use Rattle.same_run.specs.Found.{OriginIs}

-- where an area is filled, the words that have to stand twice do
filled_doubled : (c : Cipher) (s : List ℕ) → is_filled c s ≡ true → doubled c (origin c s) ≡ true
unfolding is_filled
filled_doubled c s f = and_right (same s (filled c (origin c s))) (doubled c (origin c s)) f

-- what a string holds whose conditions up to 11 hold, by the sixteen words that its tables lead back to
module _ (string : List ℕ) (c : Cipher) (position : ℕ) (rest : List ℕ) (x : load_found c position rest ≡ string_check string) where
  pub origin_none : (w : List ℕ) → Err w ≡ found_at c (words rest) position → string_check string ≡ refused 12
  origin_none w e = sym x ∙ rw (none_at c (words rest) position (none_filled c _ w (sym e)))

  pub origin_found : (w : List ℕ) → Ok w ≡ found_at c (words rest) position → OriginIs string (Ok (record { cipher = c; words = w }))
  origin_found w e =
      let (f, w-is) = some_filled c _ w (sym e) in
      let o = origin c (filled_at c (words rest) position) in (
        record { cipher = c; key = key_of c o; iv = iv_of c o; position = position; area = words rest },
        sym x ∙ rw (key_at c (words rest) position f),
        record {
          cipher_is_lem = refl;
          key_is = ap (key_of c) (sym w-is);
          iv_is = ap (iv_of c) (sym w-is);
          doubled_is = rw w-is (filled_doubled c _ f);
        },
      )

-- sixteen words of which those stand twice that have to are the same as others exactly where key and IV are
module _ (c : Cipher) (v w : List ℕ) (v-long : length v ≡ 16) (w-long : length w ≡ 16) (v-ok : AllWords v) (w-ok : AllWords w)
    (v-doubled : doubled c v ≡ true) (w-doubled : doubled c w ≡ true) where
  back : same (key_of c v) (key_of c w) && same (iv_of c v) (iv_of c w) ≡ true → v ≡ w
  back e =
      let key = same_equal (key_of c v) (key_of c w) (and_left _ _ e) in
      let iv = same_equal (iv_of c v) (iv_of c w) (and_right (same (key_of c v) (key_of c w)) _ e) in
      sym (sixteen_back v v-long v-ok c v-doubled) ∙ ap₂ (sixteen c) key iv ∙ sixteen_back w w-long w-ok c w-doubled

  there : v ≡ w → same (key_of c v) (key_of c w) && same (iv_of c v) (iv_of c w) ≡ true
  there e = rw (equal_same (key_of c v) (key_of c w) (ap (key_of c) e)) (equal_same (iv_of c v) (iv_of c w) (ap (iv_of c) e))

  pub words_same : same v w ≡ same (key_of c v) (key_of c w) && same (iv_of c v) (iv_of c w)
  words_same = true_alike _ _ (λ e. there (same_equal v w e)) (λ e. equal_same v w (back e))

  -- the same of what `==` tells
  pub words_equal : pointwise eqb v w ≡ same (key_of c v) (key_of c w) && same (iv_of c v) (iv_of c w)
  words_equal =
      true_alike (pointwise eqb v w) (same v w)
      (λ e. equal_same v w ((bytes_decides v w).0 e))
      (λ e. (bytes_decides v w).1 (same_equal v w e))
      ∙ words_same
