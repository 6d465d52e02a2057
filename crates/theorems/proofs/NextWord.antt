-- The words of a test load have 32 bits, and none that comes from another word than 0 is 0. Assumes nothing.
use mathlib.Core.Path.{◌≡◌, sym, ap, ◌∙◌}
use Prim.Native.Nat.{ℕ, ◌-◌, ◌*◌, ◌/◌, ◌^◌, ◌<◌}
use native.Mathlib.Omega.{arith}
use lib.Bits.{xor_lt, xor_zero_l}
use Rattle.word.specs.Word.{◌⊕◌, S}
use Rattle.word.proofs.Laws.{xor_xor}
use Rattle.test_load.specs.Words.{shifted_left, next_word}

abbrev after_first : ℕ → ℕ
after_first x = x ⊕ shifted_left 13 x

abbrev after_second : ℕ → ℕ
after_second x = x ⊕ S 17 x

abbrev after_third : ℕ → ℕ
after_third x = x ⊕ shifted_left 5 x

-- ── 32 bits ──

first_fits : (x : ℕ) → x < 2 ^ 32 → after_first x < 2 ^ 32
first_fits x l = xor_lt 32 x (shifted_left 13 x) l (omega arith)

second_fits : (x : ℕ) → x < 2 ^ 32 → after_second x < 2 ^ 32
second_fits x l = xor_lt 32 x (S 17 x) l (omega arith)

third_fits : (x : ℕ) → x < 2 ^ 32 → after_third x < 2 ^ 32
third_fits x l = xor_lt 32 x (shifted_left 5 x) l (omega arith)

pub word_fits : (x : ℕ) → x < 2 ^ 32 → next_word x < 2 ^ 32
unfolding next_word
word_fits x l = third_fits (after_second (after_first x)) (second_fits (after_first x) (first_fits x l))

-- ── not 0 ──

-- the exclusive or of two numbers is 0 only where they are the same
xor_0 : (x y : ℕ) → x ⊕ y ≡ 0 → x ≡ y
xor_0 x y e = sym (xor_xor x y) ∙ ap (λ (n : ℕ). n ⊕ y) e ∙ xor_zero_l y

-- 2 ^ 32 divides 8,191 times a number, or 31 times it, only where it divides the number
first_0 : (x q : ℕ) → x < 2 ^ 32 → 8191 * x ≡ 4294967296 * q → x ≡ 0
first_0 x q l e =
    let t = 4227850239 * q - 8063 * x in
    let d : x ≡ 4294967296 * t = omega arith in
    omega arith

third_0 : (x q : ℕ) → x < 2 ^ 32 → 31 * x ≡ 4294967296 * q → x ≡ 0
third_0 x q l e =
    let t = 3186588639 * q - 23 * x in
    let d : x ≡ 4294967296 * t = omega arith in
    omega arith

pub not_0 : (x : ℕ) → x < 2 ^ 32 → next_word x ≡ 0 → x ≡ 0
unfolding next_word
not_0 x l e =
    let a = after_first x in
    let b = after_second a in
    let b-fits = second_fits a (first_fits x l) in
    let third : b ≡ shifted_left 5 b = xor_0 b (shifted_left 5 b) e in
    let b_0 : b ≡ 0 = third_0 b (b * 32 / 4294967296) b-fits (omega arith) in
    let second : a ≡ S 17 a = xor_0 a (S 17 a) b_0 in
    let a_0 : a ≡ 0 = omega arith in
    let first : x ≡ shifted_left 13 x = xor_0 x (shifted_left 13 x) a_0 in
    first_0 x (x * 8192 / 4294967296) l (omega arith)
