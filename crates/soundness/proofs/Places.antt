-- The answer at a place of a string, in the form in which the loops over groups and over entries meet it. Assumes nothing.
use mathlib.Core.Path.{◌≡◌, refl, sym, ap, ◌∙◌}
use mathlib.Core.List.{List, ◌∷◌}
use Prim.Native.Nat.{ℕ, suc, ◌+◌, ◌-◌, ◌*◌, ◌^◌, ◌≤◌, ◌<◌}
use native.Mathlib.Nat.{mul-le-mul_left, mul_comm}
use native.Mathlib.Numerals.{add-one}
use native.Mathlib.Omega.{arith}
use lib.ListN.{length, get_or, drop, length-drop}
use lib.Seq.{drop-cons, drop-length}
use Rattle.laws.specs.Result.{Result, refused, accepted, ◌>>=◌}
use Rattle.laws.proofs.Results.{no_refusal, accepted_one}
use Rattle.laws.proofs.Turns as Turns
use Rattle.volume.specs.Volume.{count_range}
use Rattle.volume.specs.Calls.{ValueRead, EntryRead, read_value, read_entry}
use Rattle.soundness.specs.declared.Soundness.{Soundness}
use Rattle.soundness.specs.declared.Soundness.TheVariants as answer
use Rattle.soundness.specs.Found.{either, hopeless_before, groups_soundness, number_soundness, entry_soundness, entries_soundness, volume_soundness}
use Rattle.soundness.proofs.InNumber.{least_with, groups_end, groups_last, groups_beyond, groups_more}

-- hopeless before the bytes from place next + 1 on: at length next + 1
pub hopeless_at : (s : List ℕ) (next : ℕ) → next < length s → hopeless_before s (drop (next + 1) s) ≡ answer.Hopeless (next + 1)
hopeless_at s next l =
    let e : length s - length (drop (next + 1) s) ≡ next + 1 = omega (arith, length-drop (next + 1) s) in rw e

-- ---- the groups of a number

module _ (s : List ℕ) (at most : ℕ) where
  -- what the loop keeps: the groups before `next` announce others, and some number up to `most` has them
  pub record Come (value weight next : ℕ) : Type 0 where
    pub inside : next ≤ length s
    pub can_be : value + weight ≤ most
    pub same : groups_soundness s most 0 1 (drop at s) ≡ groups_soundness s most value weight (drop next s)

  pub comes_first : at ≤ length s → 1 ≤ most → Come 0 1 at
  comes_first h l = record { inside = h; can_be = l; same = refl }

  module _ (value weight next : ℕ) (c : Come value weight next) where
    pub ends : length s ≤ next → answer.Cut ≡ groups_soundness s most 0 1 (drop at s)
    ends l =
        let e : next ≡ length s = omega (arith, c.inside) in
        sym (c.same ∙ rw (e, drop-length s) (groups_end s most value weight))

    module _ (l : next < length s) where
      abbrev group : ℕ
      group = get_or s next 0

      at_group : groups_soundness s most 0 1 (drop at s) ≡ groups_soundness s most value weight (group ∷ drop (next + 1) s)
      at_group = c.same ∙ rw (drop-cons s next 0 l, add-one next)

      pub last : group < 128 → answer.Hopeless (next + 1) ≡ groups_soundness s most 0 1 (drop at s)
      last h = sym (at_group ∙ groups_last s most value weight group (drop (next + 1) s) h ∙ hopeless_at s next l)

      pub beyond : 128 ≤ group → most < value + weight * group → answer.Hopeless (next + 1) ≡ groups_soundness s most 0 1 (drop at s)
      beyond h m = sym (at_group ∙ groups_beyond s most value weight group (drop (next + 1) s) h m ∙ hopeless_at s next l)

      pub comes_on : 128 ≤ group → value + weight * group ≤ most → Come (value + weight * (group - 128)) (weight * 128) (next + 1)
      comes_on h m = record {
        inside = omega arith;
        can_be = rw (mul_comm weight 128, least_with value weight group h) m;
        same = rw (mul_comm weight 128) (at_group ∙ groups_more s most value weight group (drop (next + 1) s) h m);
      }

    -- what such a number makes with its next group fits 63 bits
    pub group_fits : most < 2 ^ 32 → (d : ℕ) → d < 256 → (value + weight * d < 2 ^ 63) × (weight * 128 < 2 ^ 63)
    group_fits h d m = let p : weight * d ≤ weight * 255 = mul-le-mul_left weight (omega arith) in (omega (arith, c.can_be), omega (arith, c.can_be))

-- ---- entry after entry

module _ (s : List ℕ) where
  abbrev turn : List ℕ → Result (List ℕ)
  turn rest = read_entry rest >>= λ first. accepted first.rest

  abbrev stop : ℕ → List ℕ → Soundness
  stop _ rest = entry_soundness s rest

  refused_turn : (n : ℕ) (rest : List ℕ) (m : ℕ) (r : Result EntryRead) → (r >>= λ first. accepted first.rest) ≡ refused m
      → either r (entry_soundness s rest) (λ first. entries_soundness s n first.rest) ≡ entry_soundness s rest
  refused_turn n rest m (refused _) e = refl
  refused_turn n rest m (accepted first) e = no_refusal e

  accepted_turn : (n : ℕ) (rest others : List ℕ) (r : Result EntryRead) → (r >>= λ first. accepted first.rest) ≡ accepted others
      → either r (entry_soundness s rest) (λ first. entries_soundness s n first.rest) ≡ entries_soundness s n others
  accepted_turn n rest others (refused m) e = no_refusal (sym e)
  accepted_turn n rest others (accepted first) e = ap (entries_soundness s n) (accepted_one refl e)

  pub all_refused : (n : ℕ) (rest : List ℕ) (m : ℕ) → turn rest ≡ refused m → entries_soundness s (suc n) rest ≡ entry_soundness s rest
  unfolding entries_soundness
  all_refused n rest m e = refused_turn n rest m (read_entry rest) e

  pub all_accepted : (n : ℕ) (rest others : List ℕ) → turn rest ≡ accepted others → entries_soundness s (suc n) rest ≡ entries_soundness s n others
  unfolding entries_soundness
  all_accepted n rest others e = accepted_turn n rest others (read_entry rest) e

  module _ (n : ℕ) (start : List ℕ) where
    -- what the loop keeps: from the entries that are left it finds what it finds from the first
    abbrev pub Left : ℕ → List ℕ → Type 0
    Left k rest = entries_soundness s n start ≡ entries_soundness s (n - k) rest

    module _ (k : ℕ) (rest : List ℕ) (come : Left k rest) where
      pub left_turns : {first : EntryRead} → k < n → read_entry rest ≡ accepted first → Left (k + 1) first.rest
      left_turns l e = Turns.turns turn stop (entries_soundness s) all_refused all_accepted n start k rest come l (rw e)

      pub left_stops : {m : ℕ} → k < n → read_entry rest ≡ refused m → entries_soundness s n start ≡ entry_soundness s rest
      left_stops {m} l e = Turns.stops turn stop (entries_soundness s) all_refused all_accepted n start k rest come {m = m} l (rw e)

      left_ends : n ≤ k → entries_soundness s n start ≡ entries_soundness s 0 rest
      left_ends l = Turns.ends turn stop (entries_soundness s) all_refused all_accepted n start k rest come l

    module _ (k at : ℕ) (come : Left k (drop at s)) (l : n ≤ k) where
      pub bytes_after : at < length s → answer.Hopeless (at + 1) ≡ entries_soundness s n start
      unfolding entries_soundness
      bytes_after h =
          let e : drop at s ≡ get_or s at 0 ∷ drop (at + 1) s = rw (add-one at) (drop-cons s at 0 h) in
          sym (left_ends k (drop at s) come l ∙ ap (entries_soundness s 0) e ∙ hopeless_at s at h)

      pub nothing_after : at ≡ length s → answer.Sound ≡ entries_soundness s n start
      unfolding entries_soundness
      nothing_after h = sym (left_ends k (drop at s) come l ∙ rw (h, drop-length s))

-- ---- the count, and the whole

module _ (s : List ℕ) where
  pub in_count : {m : ℕ} → read_value count_range s ≡ refused m → volume_soundness s ≡ number_soundness s count_range s
  unfolding volume_soundness
  in_count e = rw e

  pub in_entries : (count : ValueRead) → read_value count_range s ≡ accepted count → volume_soundness s ≡ entries_soundness s count.value count.rest
  unfolding volume_soundness
  in_entries count e = rw e
