-- Tables at a position: moved, they are those of the other position; undoing finds the key and IV that have them, and no others.
-- Assumes nothing.
use mathlib.Core.Path.{◌≡◌, refl, sym, ap, ◌∙◌}
use mathlib.Core.Logic.{⊎_elim}
use mathlib.Core.List.{List}
use Prim.Native.Nat.{ℕ, ◌-◌, ◌≤◌, ◌<◌}
use native.Mathlib.Omega.{arith}
use lib.ListN.{length}
use Rattle.laws.proofs.Iterate.{forward_from}
use Rattle.laws.proofs.Lists.{below_or_not}
use Rattle.cipher.specs.declared.Cipher.{Cipher}
use Rattle.cipher.specs.Numbers.{code_of, area_length}
use Rattle.cipher.proofs.Codes.{code_of_lem}
use Rattle.tables.specs.Area.{Area}
use Rattle.tables.specs.Step.{step}
use Rattle.keys.specs.Key.{Pair}
use Rattle.steps.specs.Steps.{steps, steps_back, steps_at, moved, word_at}
use Rattle.steps.proofs.Moved.{moved_up, moved_down}
use Rattle.steps.proofs.Inverse.{steps_area, steps_back_area, steps_undone, steps_redone}
use Rattle.setup.specs.SetUp.{set_up, found}
use Rattle.setup.proofs.Inverse.{set_up_area, set_up_undone, set_up_redone}
use Rattle.laws.specs.Result.{accepted}
use Rattle.conditions.specs.Conditions.{ready, ready_with_word, undo_at}
use Rattle.conditions.proofs.Conditions.{ready_accepted, word_true}
use Rattle.theorems.specs.Account.{Four, IsFour, tables_of}

-- ── moves ──

-- s are the tables that set-up leaves
module _ (c : Cipher) (s : List ℕ) (area : Area c s) where
  -- from the first i steps back to the first j
  steps_down : (i j : ℕ) → j ≤ i → steps_back c (steps c s 0 i) j (i - j) ≡ steps c s 0 j
  steps_down i j l = rw (← forward_from (step c) s j i l) (steps_undone c (steps c s 0 j) j (i - j) (steps_area c s 0 j area))

  pub moved_tables : (p q : ℕ) → moved c (steps c s 0 (steps_at p)) p q ≡ steps c s 0 (steps_at q)
  moved_tables p q =
      let i = steps_at p in
      let j = steps_at q in
      let t = steps c s 0 i in
      ⊎_elim
      (λ (l : j < i). sym (moved_down c t _ p q i j refl refl l (sym (steps_down i j (omega arith)))))
      (λ (l : i ≤ j). sym (moved_up c t _ p q i j refl refl l (sym (forward_from (step c) s i j l))))
      (below_or_not j i)

-- an area, taken as the tables at position p: those at position 0 are its steps undone
module _ (c : Cipher) (s : List ℕ) (area : Area c s) (p q : ℕ) where
  moved_from : moved c s p q ≡ steps c (steps_back c s 0 (steps_at p)) 0 (steps_at q)
  moved_from =
      ap (λ (t : List ℕ). moved c t p q) (sym (steps_redone c s 0 (steps_at p) area))
      ∙ moved_tables c _ (steps_back_area c s 0 (steps_at p) area) p q

  pub moved_area : Area c (moved c s p q)
  moved_area = rw moved_from (steps_area c _ 0 (steps_at q) (steps_back_area c s 0 (steps_at p) area))

  pub moved_undone : moved c (moved c s p q) q p ≡ s
  moved_undone =
      ap (λ (t : List ℕ). moved c t q p) moved_from
      ∙ moved_tables c _ (steps_back_area c s 0 (steps_at p) area) q p
      ∙ steps_redone c s 0 (steps_at p) area

-- ── undoing ──

pub undo_finds : (c : Cipher) (k v : List ℕ) (p : ℕ) → Pair c k v → undo_at c (steps c (set_up c k v) 0 (steps_at p)) p ≡ found k v
unfolding undo_at
undo_finds c k v p pair =
    rw (steps_undone c (set_up c k v) 0 (steps_at p) (set_up_area c k v pair)) (set_up_undone c k v pair)

pub found_have : (c : Cipher) (s : List ℕ) (p : ℕ) (k v : List ℕ) → Area c s → undo_at c s p ≡ found k v
    → Pair c k v × (steps c (set_up c k v) 0 (steps_at p) ≡ s)
unfolding undo_at
found_have c s p k v area e =
    let r = set_up_redone c (steps_back c s 0 (steps_at p)) (steps_back_area c s 0 (steps_at p) area) k v e in
    (r.0, rw r.1 (steps_redone c s 0 (steps_at p) area))

-- ── the tables of a four ──

pub four_area : (f : Four) → IsFour f → Area f.cipher (tables_of f)
unfolding tables_of
four_area f h = steps_area f.cipher _ 0 (steps_at f.position) (set_up_area f.cipher f.key f.iv h.pair)

pub four_sized : (f : Four) (s : List ℕ) → IsFour f → s ≡ tables_of f → length s ≡ area_length f.cipher
four_sized f s h e = ap length e ∙ (four_area f h).sized

-- its code, area and position are right, and so is its word
pub four_ready : (f : Four) (area : List ℕ) → IsFour f → area ≡ tables_of f → ready (code_of f.cipher) f.position (length area) ≡ accepted f.cipher
four_ready f area h e =
    ready_accepted (code_of f.cipher) f.position (length area) f.cipher (code_of_lem f.cipher) (four_sized f area h e) h.within

pub four_true : (f : Four) (area : List ℕ) (w : ℕ) → IsFour f → area ≡ tables_of f → w ≡ word_at f.cipher (tables_of f) f.position
    → ready_with_word (code_of f.cipher) f.position w area ≡ accepted f.cipher
four_true f area w h e q =
    word_true (code_of f.cipher) f.position w area f.cipher (four_ready f area h e)
    (q ∙ ap (λ (x : List ℕ). word_at f.cipher x f.position) (sym e))

pub four_moved : (f : Four) (q : ℕ) → IsFour f
    → moved f.cipher (tables_of f) f.position q ≡ tables_of (record { cipher = f.cipher; key = f.key; iv = f.iv; position = q })
unfolding tables_of
four_moved f q h = moved_tables f.cipher _ (set_up_area f.cipher f.key f.iv h.pair) f.position q
