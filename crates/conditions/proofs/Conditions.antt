-- The conditions of the calls: what is accepted, and some refusals. Assumes nothing.
use mathlib.Core.Path.{◌≡◌}
use mathlib.Core.List.{List}
use mathlib.Core.Option.{none, some}
use Prim.Native.Nat.{ℕ, ◌≤◌}
use borrow.Author.Tests.{eq-eqb, ne_eqb, le-leb}
use lib.ListN.{length}
use Rattle.cipher.specs.declared.Cipher.{Cipher}
use Rattle.cipher.specs.Numbers.{by_code, area_length, key_length, iv_length}
use Rattle.steps.specs.Steps.{word_at}
use Rattle.laws.specs.Result.{refused, accepted}
use Rattle.conditions.specs.Limit.{limit}
use Rattle.conditions.specs.Conditions.{set_up_check, ready, ready_with_word, head_check}

module _ (code key iv size : ℕ) (c : Cipher) (e : by_code code ≡ some c) where
  pub set_up_accepted : key ≡ key_length c → iv ≡ iv_length c → size ≡ area_length c → set_up_check code key iv size ≡ accepted c
  unfolding set_up_check
  set_up_accepted k v s = rw (e, eq-eqb key (key_length c) k, eq-eqb iv (iv_length c) v, eq-eqb size (area_length c) s)

module _ (code position size : ℕ) where
  pub ready_unknown : by_code code ≡ none → ready code position size ≡ refused 1
  unfolding ready
  ready_unknown e = rw e

  module _ (c : Cipher) (e : by_code code ≡ some c) where
    pub ready_accepted : size ≡ area_length c → position ≤ limit → ready code position size ≡ accepted c
    unfolding ready
    ready_accepted s l = rw (e, eq-eqb size (area_length c) s, le-leb position limit l)

module _ (code position word : ℕ) (area : List ℕ) where
  pub word_not_ready : (n : ℕ) → ready code position (length area) ≡ refused n → ready_with_word code position word area ≡ refused n
  unfolding ready_with_word
  word_not_ready n e = rw e

  module _ (c : Cipher) (e : ready code position (length area) ≡ accepted c) where
    pub word_false : (word ≡ word_at c area position → ⊥) → ready_with_word code position word area ≡ refused 13
    unfolding ready_with_word
    word_false w = rw (e, ne_eqb word (word_at c area position) w)

    pub word_true : word ≡ word_at c area position → ready_with_word code position word area ≡ accepted c
    unfolding ready_with_word
    word_true w = rw (e, eq-eqb word (word_at c area position) w)

module _ (code position : ℕ) (c : Cipher) (e : by_code code ≡ some c) where
  pub head_accepted : position ≤ limit → head_check code position ≡ accepted c
  unfolding head_check
  head_accepted l = rw (e, le-leb position limit l)
