-- Entries that are read and stored one after the other. Assumes nothing.
use mathlib.Core.Path.{◌≡◌, refl, sym, ap, ◌∙◌}
use mathlib.Core.List.{List, ◌∷◌}
use Prim.Native.Nat.{ℕ, suc, ◌+◌, ◌-◌, ◌*◌, ◌<◌, ◌≤◌}
use native.Mathlib.Nat.{zero-add}
use native.Mathlib.Omega.{arith}
use lib.ListN.{length}
use lib.Seq.{sets, sets-eq}
use Rattle.laws.specs.Result.{accepted}
use Rattle.laws.proofs.Stores.{sets_append}
use Rattle.volume.specs.declared.Entry.{Entry}
use Rattle.volume.specs.Volume.{four_numbers, numbers_of}
use Rattle.volume.specs.Calls.{EntryRead, EntriesRead, read_entry, read_entries}
use Rattle.volume.specs.Found.{Stored}
use Rattle.volume.proofs.Entries.{numbers_length}
use Rattle.volume.proofs.EntryByEntry.{entries_first, none_left, entries_count}

numbers_more : (list : List ℕ) (at : ℕ) (e : Entry) (entries : List Entry)
    → sets list at (numbers_of (e ∷ entries)) ≡ sets (sets list at (four_numbers e)) (at + 4) (numbers_of entries)
unfolding numbers_of
numbers_more list at e entries = sets_append list at (four_numbers e) (numbers_of entries)

-- m entries are left, and once they are stored from element `at` on, the list is `goal`
pub record Left (m : ℕ) (rest : List ℕ) (at : ℕ) (list goal : List ℕ) : Type 0 where
  pub left : EntriesRead
  pub left_is : read_entries m rest ≡ accepted left
  pub goal_is : sets list at (numbers_of left.entries) ≡ goal

module _ (n : ℕ) (whole list₀ : List ℕ) where
  -- what the loop keeps, where n entries begin the whole string
  abbrev pub Storing : ℕ → List ℕ → List ℕ → Type 0
  Storing k rest list =
      (found : EntriesRead) → read_entries n whole ≡ accepted found → Left (n - k) rest (4 * k) list (sets list₀ 0 (numbers_of found.entries))

  pub storing_starts : Storing 0 whole list₀
  storing_starts found e = let m : n - 0 ≡ n = omega arith in record { left = found; left_is = rw m e; goal_is = refl }

  pub storing_turns : (k : ℕ) (rest next list after : List ℕ) (e : Entry) → k < n
      → ((first : EntryRead) → read_entry rest ≡ accepted first → first ≡ record { entry = e; rest = next }) → after ≡ sets list (4 * k) (four_numbers e)
      → Storing k rest list → Storing (k + 1) next after
  storing_turns k rest next list after e l r q s found f =
      let w = s found f in
      let m : n - k ≡ suc (n - (k + 1)) = omega arith in
      let o = entries_first (n - (k + 1)) rest w.left (ap (λ (j : ℕ). read_entries j rest) (sym m) ∙ w.left_is) in
      let same : record { entry = e; rest = next } ≡ o.first = sym (r o.first o.first_is) in
      let place : 4 * k + 4 ≡ 4 * (k + 1) = omega arith in
      record {
        left = o.others;
        left_is = ap (λ (x : EntryRead). read_entries (n - (k + 1)) x.rest) same ∙ o.others_are;
        goal_is = rw (q, ← place)
            (sym (numbers_more list (4 * k) e o.others.entries)
            ∙ ap (λ (x : EntryRead). sets list (4 * k) (numbers_of (x.entry ∷ o.others.entries))) same
            ∙ ap (λ (x : EntriesRead). sets list (4 * k) (numbers_of x.entries)) (sym o.both) ∙ w.goal_is);
      }

  pub storing_ends : (k : ℕ) (rest list : List ℕ) → n ≤ k → 4 * n ≤ length list₀ → Storing k rest list → Stored n whole list₀ list
  unfolding numbers_of
  storing_ends k rest list l h s found f =
      let w = s found f in
      let m : n - k ≡ 0 = omega arith in
      let none = none_left rest w.left (ap (λ (j : ℕ). read_entries j rest) (sym m) ∙ w.left_is) in
      let count = entries_count n whole found f in
      let numbers = numbers_length found.entries in
      ap (λ (x : EntriesRead). sets list (4 * k) (numbers_of x.entries)) (sym none) ∙ w.goal_is
      ∙ rw zero-add at (sets-eq (numbers_of found.entries) list₀ 0 (omega arith))
