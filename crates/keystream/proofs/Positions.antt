-- From position p, n bytes on: the tables have taken the steps of position p + n, one for each word begun. Assumes nothing.
use mathlib.Core.Path.{◌≡◌, refl, sym}
use mathlib.Core.Logic.{⊎_elim}
use mathlib.Core.List.{List}
use Prim.Native.Nat.{ℕ, zero, suc, ◌+◌, ◌-◌, ◌/◌, ◌%◌, ◌≤◌}
use native.Mathlib.Nat.{add-suc}
use native.Mathlib.Omega.{arith}
use borrow.Author.Tests.{eq-eqb, ne_eqb}
use Rattle.laws.specs.Iterate.{forward}
use Rattle.laws.proofs.Lists.{below_or_not}
use Rattle.cipher.specs.declared.Cipher.{Cipher}
use Rattle.steps.specs.Steps.{steps, steps_at, moved}
use Rattle.steps.proofs.Moved.{steps_up, moved_up}
use Rattle.keystream.specs.Keystream.{tables_next, tables_after}

-- where a word begins at q, one step more is counted, and its number is q/4; inside a word, none
begins : (q : ℕ) → q % 4 ≡ 0 → (steps_at (suc q) ≡ suc (steps_at q)) × (q / 4 ≡ steps_at q)
begins q e = omega arith

inside : (q : ℕ) → (q % 4 ≡ 0 → ⊥) → steps_at (suc q) ≡ steps_at q
inside q h = omega arith

less_suc : (a b d : ℕ) → a ≤ b → d ≡ suc b → d - a ≡ suc (b - a)
less_suc a b d l e = omega arith

plus_less : (a b : ℕ) → a ≤ b → a + (b - a) ≡ b
plus_less a b l = omega arith

module _ (c : Cipher) (s : List ℕ) (p : ℕ) where
  one_more : (n : ℕ) → (p + n) % 4 ≡ 0 → tables_next c (steps c s (steps_at p) (steps_at (p + n) - steps_at p)) (p + n)
      ≡ steps c s (steps_at p) (steps_at (suc (p + n)) - steps_at p)
  unfolding tables_next forward
  one_more n e =
      let b = begins (p + n) e in
      let l = steps_up p n in
      rw (
        eq-eqb ((p + n) % 4) 0 e,
        less_suc (steps_at p) (steps_at (p + n)) (steps_at (suc (p + n))) l b.0,
        plus_less (steps_at p) (steps_at (p + n)) l,
        b.1,
      )

  none_more : (n : ℕ) → ((p + n) % 4 ≡ 0 → ⊥) → tables_next c (steps c s (steps_at p) (steps_at (p + n) - steps_at p)) (p + n)
      ≡ steps c s (steps_at p) (steps_at (suc (p + n)) - steps_at p)
  unfolding tables_next
  none_more n h = rw (ne_eqb ((p + n) % 4) 0 h, inside (p + n) h)

  pub tables_after_lem : (n : ℕ) → tables_after c s p n ≡ steps c s (steps_at p) (steps_at (p + n) - steps_at p)
  unfolding forward
  tables_after_lem zero = let e : steps_at (p + 0) - steps_at p ≡ 0 = omega arith in rw e
  tables_after_lem (suc n) =
      rw (tables_after_lem n, add-suc p n)
      (⊎_elim (λ l. one_more n (omega arith)) (λ l. none_more n (λ e. omega arith)) (below_or_not ((p + n) % 4) 1))

-- a move on by n bytes is what ciphering n bytes does to the tables
pub moved_on : (c : Cipher) (s : List ℕ) (p n : ℕ) → moved c s p (p + n) ≡ tables_after c s p n
moved_on c s p n = sym (moved_up c s _ p (p + n) (steps_at p) (steps_at (p + n)) refl refl (steps_up p n) (tables_after_lem c s p n))
