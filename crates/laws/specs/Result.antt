-- What a call answers: the number of its refusal, or what an accepted call gives. A `do` block tries its lines in order, and the first
-- refusal is the answer.
use Rattle.std.specs.Prelude.{Bool, true, false, cond, ℕ, eqb}
use Rattle.std.proofs.Math.Option.{Option, none, some}

pub data Result (A : Type 0) : Type 0 where
  refused : ℕ → Result A
  accepted : A → Result A

infixl 10 ◌>>=◌
infixl 10 ◌>>◌
abbrev pub ◌>>=◌ : {A B : Type 0} → Result A → (A → Result B) → Result B
◌>>=◌ (refused n) f = refused n
◌>>=◌ (accepted a) f = f a

abbrev pub ◌>>◌ : {A B : Type 0} → Result A → Result B → Result B
◌>>◌ (refused n) b = refused n
◌>>◌ (accepted a) b = b

infix 20 refuse◌unless◌
abbrev pub refuse◌unless◌ : ℕ → Bool → Result (Unit {0})
refuse◌unless◌ n true = accepted tt
refuse◌unless◌ n false = refused n

-- the value that is there, or the refusal n
infix 20 refuse◌without◌
abbrev pub refuse◌without◌ : {A : Type 0} → ℕ → Option A → Result A
refuse◌without◌ n none = refused n
refuse◌without◌ n (some a) = accepted a

-- 'A refusal is its number alone .. head and every lent byte keep their values': the refusal number, 0 where the call is accepted, and what the call
-- leaves. `old` is what a refused call leaves: head, area and lent bytes as they were, and 0, an empty part or no for what the call returns.
pub record Outcome (A : Type 0) : Type 0 where
  pub refusal : ℕ
  pub value : A

abbrev pub outcome : {A : Type 0} → A → Result A → Outcome A
outcome old (refused n) = record { refusal = n; value = old }
outcome old (accepted new) = record { refusal = 0; value = new }

-- a refusal number and a value, where 0 means accepted: how a struct of the code is a result
abbrev pub result_of : {A : Type 0} → ℕ → A → Result A
result_of n a = cond (eqb n 0) (accepted a) (refused n)
