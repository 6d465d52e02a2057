-- A call on what another left.
use mathlib.Core.Path.{◌≡◌, refl, sym, ap, ◌∙◌}
use mathlib.Core.List.{List}
use Prim.Native.Nat.{ℕ, ◌≤◌}
use native.Mathlib.Omega.{arith}
use borrow.Author.Tests.{ne_eqb}
use lib.IntN.{pos, neg_ℤ, ◌-ℤ◌, +ℤ_idl}
use lib.ListN.{length, drop, length-append}
use lib.Seq.{length-take-le}
use Rattle.engine.specs.declared.Head.{Head}
use Rattle.engine.specs.declared.answers.Keys.{Keys}
use Rattle.std.specs.Prelude.{Result, Ok, Err, IfOk}
use Rattle.std.specs.Result.{result_and}
use Rattle.laws.specs.Result.{refused, accepted, Outcome, outcome}
use Rattle.laws.specs.Result as Laws
use Rattle.refusal.specs.declared.Refusal.{Refusal}
use Rattle.refusal.specs.Numbers.{number_of}
use Rattle.engine.specs.Head.{fresh_head}
use Rattle.engine.specs.Calls.{Engine, engine_of, set_up_call, write, write_call, recover_call, load_call}
use Rattle.engine.specs.Calls as Calls
use Rattle.engine.specs.Outcomes as Outcomes
use Rattle.engine.proofs.Outcomes.{never_0}
use Rattle.theorems.specs.Demand3.{given}
use Rattle.theorems.proofs.Writes.{write_shows}
use Rattle.lab.specs.Tasks as Tasks
use Rattle.move_to.specs.MoveTo.{move_to}
use Rattle.lab.specs.Tasks.{load_fresh, load_and_move, open_checkpoint, set_up_at, then_write, recover_from}

-- what the code's load from a fresh head leaves
pub loaded_is : (h : Head) (string area s : List ℕ) (a : Result Keys Refusal) (new : Head) → h ≡ fresh_head
    → Outcomes.loaded a new s ≡ load_call h string area → Outcomes.done (result_and a (Ok (tt {0}))) new s ≡ load_fresh string area
unfolding load_fresh
loaded_is h string area s (Ok keys) new f e = rw (← f, ← e)
loaded_is h string area s (Err r) new f e = rw (← f, ← e)

-- from p back to 0
pub back_to_0 : (p : ℕ) → pos 0 -ℤ pos p ≡ neg_ℤ (pos p)
back_to_0 p = +ℤ_idl (neg_ℤ (pos p))

pub opened_is : (string area : List ℕ) → load_and_move string area 0 ≡ open_checkpoint string area
unfolding load_and_move open_checkpoint move_to
opened_is string area = simp back_to_0

-- ── calls on what a set up or a load left ──

-- `a`, `new` and `s` are the answer, the head and the area that the first call leaves
module _ (a : Result (Unit {0}) Refusal) (new : Head) (s : List ℕ) where
  module _ (h : Head) (code : ℕ) (key iv area : List ℕ) (position : ℕ) (f : h ≡ fresh_head)
      (e : Outcomes.done a new s ≡ set_up_call h code key iv area) where
    pub started_refused : (r : Refusal) → a ≡ Err r → Outcomes.done a new s ≡ set_up_at code key iv area position
    unfolding set_up_at
    started_refused r z = rw (← f, ← e, z, ne_eqb (number_of r) 0 (never_0 r))

    pub started_made : a ≡ Ok tt → (m : Outcome Engine) → m ≡ move_to position (engine_of new s)
        → m ≡ set_up_at code key iv area position
    unfolding set_up_at
    started_made z m q = rw (← f, ← e, z) q

  module _ (string area : List ℕ) (e : Outcomes.done a new s ≡ load_fresh string area) where
    pub moved_refused : (position : ℕ) (r : Refusal) → a ≡ Err r → Outcomes.done a new s ≡ load_and_move string area position
    unfolding load_and_move
    moved_refused position r z = rw (← e, z, ne_eqb (number_of r) 0 (never_0 r))

    pub moved_made : (position : ℕ) → a ≡ Ok tt → (m : Outcome Engine) → m ≡ move_to position (engine_of new s)
        → m ≡ load_and_move string area position
    unfolding load_and_move
    moved_made position z m q = rw (← e, z) q

    pub recovered_refused : (key iv : List ℕ) (r : Refusal) → a ≡ Err r → Outcomes.recovered a new s key iv ≡ recover_from string area key iv
    unfolding recover_from
    recovered_refused key iv r z = rw (← e, z, ne_eqb (number_of r) 0 (never_0 r))

    pub recovered_made : (key iv : List ℕ) → a ≡ Ok tt → (m : Outcome Calls.Recovered) → m ≡ recover_call new s key iv
        → m ≡ recover_from string area key iv
    unfolding recover_from
    recovered_made key iv z m q = rw (← e, z) q

-- the lent bytes after a write are at least as many as the checkpoint's
write_counts : (h : Head) (area lent : List ℕ) (x : Laws.Result Calls.Written) → write h area lent ≡ x
    → let w = (outcome (record { engine = engine_of h area; length = 0; lent = lent }) x).value in w.length ≤ length w.lent
write_counts h area lent (refused n) e = omega arith
write_counts h area lent (accepted w) e =
    let (c, s) = write_shows h area lent w e in
    omega (arith, ap length s.later, length-append (given w) (drop w.length lent), s.as_long)

-- a number that is no greater than the bytes counts them
pub counts : (n : ℕ) (bytes : List ℕ) → n ≤ length bytes → Tasks.Counts n bytes
counts n bytes l = (l, sym (length-take-le n bytes l))

module _ (lent : List ℕ) (a : Result (Unit {0}) Refusal) (h : Head) (s : List ℕ) where
  pub written_refused : (r : Refusal) → a ≡ Err r → Outcomes.written (Err r) h s lent ≡ then_write (Outcomes.done a h s) lent
  written_refused r z = rw (z, ne_eqb (number_of r) 0 (never_0 r))

  counted : (b : Result ℕ Refusal) (new : Head) (lent' : List ℕ) → Outcomes.written b new s lent' ≡ write_call h s lent
      → IfOk b (λ n. Tasks.Counts n lent')
  unfolding write_call
  counted (Ok n) new lent' e =
      counts n lent'
      (rw (ap (λ (y : Outcome Calls.Written). y.value.length) e, ap (λ (y : Outcome Calls.Written). y.value.lent) e)
      (write_counts h s lent (write h s lent) refl))
  counted (Err r) new lent' e = tt

  pub written_made : a ≡ Ok tt → (b : Result ℕ Refusal) (new : Head) (lent' : List ℕ) → Outcomes.written b new s lent' ≡ write_call h s lent
      → (Outcomes.written b new s lent' ≡ then_write (Outcomes.done a h s) lent) × IfOk b (λ n. Tasks.Counts n lent')
  written_made z b new lent' e = (rw z e, counted b new lent' e)

-- a write after calls that leave the outcome `first`
pub written_after : (first other : Outcome Engine) (lent : List ℕ) (w : Outcome Calls.Written) (C : Type 0) → first ≡ other
    → (w ≡ then_write first lent) × C → (w ≡ then_write other lent) × C
written_after first other lent w C e p = (p.0 ∙ ap (λ (f : Outcome Engine). then_write f lent) e, p.1)
