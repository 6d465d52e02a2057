-- A rotation by std's method is that of the definition: the two parts that it joins have no bit in common.
use Rattle.std.proofs.Common.{◌≡◌, ℕ, ◌+◌, ◌-◌, ◌*◌, ◌/◌, ◌%◌, ◌^◌, ◌<◌, sym, ◌∙◌, arith}
use lib.Bits.{bit_or, bit_xor, or_comm, xor_comm, or_shifted, xor_shifted}
use lib.Pow.{pow_pos, shl-shr, low, mod-pow-add, shr_lt}
use Rattle.std.specs.Int.{w32, rotate_left, rotate_right}
use Rattle.word.specs.Word.{R, L}

-- the lowest j bits, moved up by k
moved : (x j k : ℕ) → x * 2 ^ k % 2 ^ (j + k) ≡ x % 2 ^ j * 2 ^ k
moved x j k =
    let e : x * 2 ^ k + 0 ≡ x * 2 ^ k = omega arith in
    let r : x * 2 ^ k % 2 ^ k ≡ 0 = rw e at (low x k (pow_pos k)) in
    mod-pow-add (x * 2 ^ k) j k ∙ rw (shl-shr x k, r) (omega arith)

joined : (x j k : ℕ) → x < 2 ^ (j + k) → bit_or (x * 2 ^ k % 2 ^ (j + k)) (x / 2 ^ j) ≡ bit_xor (x * 2 ^ k % 2 ^ (j + k)) (x / 2 ^ j)
joined x j k l =
    let e : j + k ≡ k + j = omega arith in
    let b : x / 2 ^ j < 2 ^ k = shr_lt k j (rw e at l) in
    rw (moved x j k) (or_shifted (x % 2 ^ j) k (x / 2 ^ j) b ∙ sym (xor_shifted (x % 2 ^ j) k (x / 2 ^ j) b))

module _ (x n : ℕ) (h : x < 2 ^ 32) (p : 0 < n) (l : n < 32) where
  within : n % 32 ≡ n
  within = omega arith

  rest : (32 - n % 32) % 32 ≡ 32 - n
  rest = omega arith

  pub rotate_right_is : rotate_right w32 x n ≡ R n x
  rotate_right_is =
      let e : n + (32 - n) ≡ 32 = omega arith in
      rw (rest, within)
      (or_comm (x / 2 ^ n) (x * 2 ^ (32 - n) % 2 ^ 32) ∙ (rw e at (joined x n (32 - n) (rw e h))) ∙ xor_comm (x * 2 ^ (32 - n) % 2 ^ 32) (x / 2 ^ n))

  pub rotate_left_is : rotate_left w32 x n ≡ L n x
  rotate_left_is =
      let e : 32 - n + n ≡ 32 = omega arith in
      rw (rest, within) (rw e at (joined x (32 - n) n (rw e h)))
