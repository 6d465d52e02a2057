-- The eight words of a key or an IV determine its bytes, so no two fours share a name. Assumes nothing.
use mathlib.Core.Path.{◌≡◌, refl, sym, ap, ◌∙◌}
use mathlib.Core.List.{List}
use Prim.Native.Nat.{ℕ, ◌*◌}
use lib.ListN.{length, take}
use lib.Seq.{take_at}
use Rattle.word.specs.Bytes.{bytes, words, AllBytes}
use Rattle.word.proofs.Bytes.{bytes_words, length_words}
use Rattle.cipher.specs.declared.Cipher.{Cipher}
use Rattle.cipher.specs.declared.Cipher.TheVariants.{Hc128, Hc256}
use Rattle.cipher.specs.Numbers.{key_length, iv_length}
use Rattle.cipher.proofs.Codes.{same_code}
use Rattle.engine.specs.Calls.{Loaded, eight_words}
use Rattle.theorems.specs.Account.{Four, IsFour}
use Rattle.theorems.specs.Demand3.{Names}

eight_words_one : (n : ℕ) (k m : List ℕ) → AllBytes k → AllBytes m → length k ≡ 4 * n → length m ≡ 4 * n
    → eight_words k ≡ eight_words m → k ≡ m
eight_words_one n k m bk bm lk lm e =
    let w : words k ≡ words m =
    sym (take_at (words k) _ n (length_words n k lk)) ∙ ap (take n) e ∙ take_at (words m) _ n (length_words n m lm) in
    sym (bytes_words n k lk bk) ∙ ap bytes w ∙ bytes_words n m lm bm

-- a key and an IV are n whole words
whole_words : (c : Cipher) → (n : ℕ) × (key_length c ≡ 4 * n) × (iv_length c ≡ 4 * n)
whole_words Hc128 = (4, refl, refl)
whole_words Hc256 = (8, refl, refl)

-- the words of a key and an IV determine both, for fours of one cipher
pub key_and_iv_one : (f g : Four) → IsFour f → IsFour g → f.cipher ≡ g.cipher → eight_words f.key ≡ eight_words g.key
    → eight_words f.iv ≡ eight_words g.iv → (f.key ≡ g.key) × (f.iv ≡ g.iv)
key_and_iv_one f g hf hg c k v =
    let (n, kn, vn) = whole_words g.cipher in
    let a = hf.pair in
    let b = hg.pair in (
      eight_words_one n f.key g.key a.key_bytes b.key_bytes (a.key_long ∙ ap key_length c ∙ kn) (b.key_long ∙ kn) k,
      eight_words_one n f.iv g.iv a.iv_bytes b.iv_bytes (a.iv_long ∙ ap iv_length c ∙ vn) (b.iv_long ∙ vn) v,
    )

pub name_of_one : (o : Loaded) (f g : Four) → IsFour f → IsFour g → Names o f → Names o g → f ≡ g
name_of_one o f g hf hg nf ng =
    let c : f.cipher ≡ g.cipher = same_code f.cipher g.cipher (sym nf.code ∙ ng.code) in
    let (k, v) = key_and_iv_one f g hf hg c (sym nf.key ∙ ng.key) (sym nf.iv ∙ ng.iv) in
    let p = sym nf.position ∙ ng.position in
    λ i. record { cipher = c i; key = k i; iv = v i; position = p i }
