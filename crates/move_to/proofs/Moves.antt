-- Moves to a position as moves by a distance, and that the distance fits 64 bits. Assumes nothing.
use mathlib.Core.Path.{◌≡◌, refl, sym, ◌∙◌}
use mathlib.Core.Bool.{Bool, true, false}
use mathlib.Core.List.{List}
use Prim.Native.Nat.{ℕ, zero, suc, ◌+◌, ◌≤◌, ◌<◌}
use native.Mathlib.Omega.{arith}
use borrow.Author.Tests.{lt-leb}
use mir.Syntax.{w64}
use mir.Val.{SFits, to_z, of_z}
use mir.ValLaws.{to_z-of_z, to_z_pos}
use lib.Dec.{ltb}
use lib.IntN.{ℤ, pos, negsuc, ◌+ℤ◌, ◌-ℤ◌, +ℤ_comm, -ℤ-+ℤ_cancel}
use Rattle.cipher.specs.declared.Cipher.{Cipher}
use Rattle.laws.specs.Result.{Result, refused, accepted}
use Rattle.conditions.specs.Limit.{limit}
use Rattle.conditions.specs.Conditions.{end_of}
use Rattle.conditions.proofs.Shows.{word_shows}
use Rattle.engine.specs.declared.Head.{Head}
use Rattle.engine.specs.Calls.{engine_of, head_ready, move_call}
use Rattle.engine.proofs.Calls.{move_refused, move_unreached}
use Rattle.move_to.specs.MoveTo.{distance, move_to}

-- the distance from p to q ends at q
pub ends_at : (p q : ℕ) → pos p +ℤ distance p q ≡ pos q
ends_at p q = +ℤ_comm (pos p) (pos q -ℤ pos p) ∙ -ℤ-+ℤ_cancel (pos q) (pos p)

-- ---- moves to a position

module _ (h : Head) (area : List ℕ) where
  -- from a position over the limit every distance gives the same refusal
  over : (d e : ℤ) (r : Result Cipher) → head_ready h area ≡ r → limit < h.position → move_call h area d ≡ move_call h area e
  over d e (refused n) q l = sym (move_refused h area d n q) ∙ move_refused h area e n q
  over d e (accepted c) q l =
      let w = (word_shows h.code h.position h.word area c q).is_ready.within_limit in absurd (omega arith)

  pub from_over : (position : ℕ) (d : ℤ) → limit < h.position → move_call h area d ≡ move_to position (engine_of h area)
  unfolding move_to
  from_over position d l = over d _ (head_ready h area) refl l

  -- two distances whose ends pass the limit give the same refusal
  past : (d e : ℤ) (r : Result Cipher) → head_ready h area ≡ r → end_of h.position d ≡ refused 6
      → end_of h.position e ≡ refused 6 → move_call h area d ≡ move_call h area e
  past d e (refused n) q x y = sym (move_refused h area d n q) ∙ move_refused h area e n q
  past d e (accepted c) q x y = sym (move_unreached h area d c q 6 x) ∙ move_unreached h area e c q 6 y

  pub to_over : (position n : ℕ) → limit < position → limit < n
      → move_call h area (pos n) ≡ move_to position (engine_of h area)
  unfolding move_to end_of
  to_over position n l m =
      let p = h.position in
      past (pos n) (distance p position) (head_ready h area) refl
      (rw (lt-leb (p + n) limit (omega arith)))
      (rw (ends_at p position, lt-leb position limit l))

  pub by_distance : (position : ℕ) (d : ℤ) → d ≡ distance h.position position
      → move_call h area d ≡ move_to position (engine_of h area)
  unfolding move_to
  by_distance position d e = rw e

-- ---- distances in 64 bits

difference_fits : (a b : ℕ) (t : Bool) → ltb a (suc b) ≡ t → a ≤ limit → b < limit → SFits w64 (pos a +ℤ negsuc b)
difference_fits a b true e l m = rw e (record { sfits = omega arith })
difference_fits a b false e l m = rw e (record { sfits = omega arith })

pub distance_fits : (a b : ℕ) → a ≤ limit → b ≤ limit → SFits w64 (to_z w64 a -ℤ to_z w64 b)
distance_fits a b l m = rw (to_z_pos w64 a (omega arith), to_z_pos w64 b (omega arith)) (go b m)
  where
    go : (n : ℕ) → n ≤ limit → SFits w64 (pos a -ℤ pos n)
    go zero k = record { sfits = omega arith }
    go (suc n) k = difference_fits a n (ltb a (suc n)) refl l (omega arith)

pub distance_is : (a b : ℕ) → a ≤ limit → b ≤ limit → to_z w64 (of_z w64 (to_z w64 a -ℤ to_z w64 b)) ≡ pos a -ℤ pos b
distance_is a b l m = to_z-of_z w64 _ (distance_fits a b l m) ∙ rw (to_z_pos w64 a (omega arith), to_z_pos w64 b (omega arith))
