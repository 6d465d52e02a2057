-- Bytes done from the front: what the parts of the cipher call leave, and when all is done. Assumes nothing.
use mathlib.Core.Path.{◌≡◌, refl, ◌∙◌}
use mathlib.Core.Logic.{⊎_elim}
use mathlib.Core.List.{List}
use Prim.Native.Nat.{ℕ, zero, suc, ◌+◌, ◌*◌, ◌≤◌, ◌<◌}
use native.Mathlib.Nat.{add-zero, add-suc, zero-add, eq-or-lt_of_le}
use native.Mathlib.Omega.{arith}
use lib.ListN.{length, get_or, set, length-set}
use lib.Seq.{get_or-set_same, get_or-set_other}
use Rattle.laws.specs.Iterate.{forward}
use Rattle.word.specs.Word.{◌⊕◌}
use Rattle.word.specs.Bytes.{byte}
use Rattle.keystream.specs.Stores.{xor_part}

-- the first n bytes of bs are done in out: byte k with f k; the others are as they were
pub record Xored (f : ℕ → ℕ) (bs out : List ℕ) (n : ℕ) : Type 0 where
  pub sized : length out ≡ length bs
  pub done : (k : ℕ) → k < n → get_or out k 0 ≡ get_or bs k 0 ⊕ f k
  pub left : (k : ℕ) → n ≤ k → get_or out k 0 ≡ get_or bs k 0

module _ (f : ℕ → ℕ) (bs : List ℕ) where
  pub xored_none : Xored f bs bs 0
  xored_none = record { sized = refl; done = λ k l. absurd (omega arith); left = λ k l. refl }

  -- one byte more
  one : (out : List ℕ) (n x : ℕ) → n < length bs → x ≡ f n → Xored f bs out n → Xored f bs (set out n (get_or out n 0 ⊕ x)) (suc n)
  one out n x l e v =
      let z : length out ≡ length bs = v.sized in
      record {
        sized = length-set out n _ ∙ v.sized;
        done = λ k b.
            ⊎_elim
            (λ (q : k ≡ n). rw (q, get_or-set_same out n (get_or out n 0 ⊕ x) 0 (omega arith), v.left n (omega arith), e))
            (λ (b : k < n). get_or-set_other out n k _ 0 (λ q. omega arith) ∙ v.done k b)
            (eq-or-lt_of_le {n = k} {m = n} (omega arith));
        left = λ k b. get_or-set_other out n k _ 0 (λ q. omega arith) ∙ v.left k (omega arith);
      }

  -- a part of a word more
  pub xored_part : (out : List ℕ) (n m w from : ℕ) → n + m ≤ length bs → ((k : ℕ) → k < m → byte (from + k) w ≡ f (n + k))
      → Xored f bs out n → Xored f bs (xor_part n m w from out) (n + m)
  unfolding forward
  xored_part out n zero w from l e v = rw add-zero v
  xored_part out n (suc m) w from l e v =
      rw (zero-add m, add-suc n m)
      (one (xor_part n m w from out) (n + m) (byte (from + m) w) (omega arith) (e m (omega arith))
      (xored_part out n m w from (omega arith) (λ k b. e k (omega arith)) v))

  -- m whole words more, of which word k is w k
  pub xored_words : (out : List ℕ) (n m : ℕ) (w : ℕ → ℕ) → n + 4 * m ≤ length bs
      → ((k : ℕ) → k < m → (r : ℕ) → r < 4 → byte r (w k) ≡ f (n + 4 * k + r))
      → Xored f bs out n → Xored f bs (forward (λ bs k. xor_part (n + 4 * k) 4 (w k) 0 bs) out 0 m) (n + 4 * m)
  unfolding forward
  xored_words out n zero w l e v = rw (add-zero n) v
  xored_words out n (suc m) w l e v =
      let q : n + 4 * suc m ≡ n + 4 * m + 4 = omega arith in
      rw (zero-add m, q)
      (xored_part _ (n + 4 * m) 4 (w m) 0 (omega arith) (λ k b. rw (zero-add k) (e m (omega arith) k b))
      (xored_words out n m w (omega arith) (λ k b. e k (omega arith)) v))
