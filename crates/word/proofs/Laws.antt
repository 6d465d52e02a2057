-- A difference undoes a sum, a sum a difference, and an exclusive or itself. Assumes nothing.
use Rattle.std.proofs.Common.{◌≡◌, ℕ, zero, suc, ◌+◌, ◌*◌, ◌/◌, ◌%◌, ◌^◌, ◌<◌, refl, ap, ◌∙◌, ap₂, div-add-mod', arith}
use lib.Arith.{digits_div, digits_mod, bin_ind}
use lib.Bits.{bit_xor, differ, xor_step, xor_self}
use Rattle.word.specs.Word.{◌⊞◌, ◌⊟◌, ◌⊕◌}

pub sum_difference : (x d : ℕ) → x < 2 ^ 32 → d < 2 ^ 32 → x ⊞ d ⊟ d ≡ x
sum_difference x d hx hd = omega arith

pub difference_sum : (x d : ℕ) → x < 2 ^ 32 → d < 2 ^ 32 → x ⊟ d ⊞ d ≡ x
difference_sum x d hx hd = omega arith

-- of two binary digits
differ_twice : (x y : ℕ) → x < 2 → y < 2 → (differ (differ x y) y ≡ x) × (differ x y < 2)
differ_twice zero zero hx hy = (refl, omega arith)
differ_twice zero (suc zero) hx hy = (refl, omega arith)
differ_twice zero (suc (suc y)) hx hy = absurd (omega arith)
differ_twice (suc zero) zero hx hy = (refl, omega arith)
differ_twice (suc zero) (suc zero) hx hy = (refl, omega arith)
differ_twice (suc zero) (suc (suc y)) hx hy = absurd (omega arith)
differ_twice (suc (suc x)) y hx hy = absurd (omega arith)

pub xor_xor : (x k : ℕ) → x ⊕ k ⊕ k ≡ x
xor_xor x k =
    bin_ind (λ (n : ℕ). (k : ℕ) → bit_xor (bit_xor n k) k ≡ n) (λ k. xor_self k)
    (λ n ih k.
    let d = differ_twice (n % 2) (k % 2) (omega arith) (omega arith) in
    xor_step (bit_xor n k) k
    ∙ ap₂ (λ (a b : ℕ). bit_xor a (k / 2) * 2 + differ b (k % 2))
    (ap (λ (a : ℕ). a / 2) (xor_step n k) ∙ digits_div (bit_xor (n / 2) (k / 2)) d.1)
    (ap (λ (a : ℕ). a % 2) (xor_step n k) ∙ digits_mod (bit_xor (n / 2) (k / 2)) d.1)
    ∙ ap₂ (λ (a b : ℕ). a * 2 + b) (ih (k / 2)) d.0
    ∙ div-add-mod' n 2)
    x k
