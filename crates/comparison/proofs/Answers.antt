-- What the two calls answer, from what reading each recording answers. Assumes nothing.
use mathlib.Core.Path.{◌≡◌, refl, sym, ap, ap₂, ◌∙◌}
use mathlib.Core.Bool.{Bool, true, false, cond}
use mathlib.Core.List.{List, [], ◌∷◌}
use Prim.Native.Nat.{ℕ, suc, ◌+◌, ◌≤◌}
use native.Mathlib.Omega.{arith}
use lib.Dec.{ltb}
use lib.ListN.{length, drop}
use Rattle.std.specs.Prelude.{Ok, Err}
use Rattle.std.specs.Prelude as Std
use Rattle.laws.specs.Result.{Result, refused, accepted, outcome, ◌>>=◌}
use Rattle.refusal.specs.declared.Refusal.{Refusal}
use Rattle.refusal.specs.Numbers.{number_of, number_in}
use Rattle.refusal.specs.Told.{told}
use Rattle.varint.specs.declared.Found.{Found}
use Rattle.volume.specs.declared.Entry.{Entry}
use Rattle.volume.specs.Volume.{volume_string}
use Rattle.volume.specs.Calls.{entries_in, check_volume}
use Rattle.volume.specs.Found.{count_in, Begins}
use Rattle.volume.proofs.Undo.{Bytes, volume_was}
use Rattle.volume.proofs.Volumes.{check_refused, check_accepted, entries_refused, entries_accepted, entries_found}
use Rattle.comparison.specs.declared.Part.{Part}
use Rattle.comparison.specs.declared.Part.TheVariants as part
use Rattle.comparison.specs.Comparison.{same_entry, same_entries, choose, part_from, compare_recordings, compare_recordings_call}
use Rattle.comparison.specs.Found.{Last, PartIs, part_of_last, blender_rest, gauge_rest, last_entries}
use Rattle.comparison.proofs.Places.{begins_last, left_last}

-- ---- the part of two recordings, by their last entries

module _ (n m : ℕ) where
  abbrev last_part : (k : ℕ) (blender gauge : List Entry) → Part
  last_part k blender gauge =
      choose (drop k blender) (drop k gauge) (blender_rest n (last_entries n (drop k blender))) (gauge_rest m (last_entries m (drop k gauge)))

  by_first : (b g : Entry) (blender gauge : List Entry) (same : Bool) (p : Part) (k : ℕ) → p ≡ last_part k blender gauge
      → cond same p (cond (ltb g.ratio b.ratio) (gauge_rest m (last_entries m (g ∷ gauge))) (blender_rest n (last_entries n (b ∷ blender))))
      ≡ last_part (cond same (suc k) 0) (b ∷ blender) (g ∷ gauge)
  by_first b g blender gauge true p k e = e
  by_first b g blender gauge false p k e = refl

  by_last : (blender gauge : List Entry) → part_of_last n m blender gauge ≡ last_part (same_entries blender gauge) blender gauge
  unfolding part_of_last same_entries
  by_last [] [] = refl
  by_last [] (g ∷ gauge) = refl
  by_last (b ∷ blender) [] = refl
  by_last (b ∷ blender) (g ∷ gauge) =
      by_first b g blender gauge (same_entry b g) (part_of_last n m blender gauge) (same_entries blender gauge) (by_last blender gauge)

part_last : (k : ℕ) (blender gauge : List Entry)
    → part_from k blender gauge ≡ last_part (length (volume_string blender)) (length (volume_string gauge)) k blender gauge
unfolding part_from
part_last k blender gauge =
    ap₂ (choose (drop k blender) (drop k gauge))
    (ap₂ part.Blender (begins_last k blender) (left_last k blender))
    (ap₂ part.Gauge (begins_last k gauge) (left_last k gauge))

-- ---- the calls

module _ (blender gauge : List ℕ) where
  compared : {blenders gauges : List Entry} → entries_in blender ≡ accepted blenders → entries_in gauge ≡ accepted gauges
      → compare_recordings blender gauge ≡ accepted (part_from (same_entries blenders gauges) blenders gauges)
  unfolding compare_recordings
  compared b g = rw (b, g)

  refused_first : {n : ℕ} → entries_in blender ≡ refused n → compare_recordings blender gauge ≡ refused n
  unfolding compare_recordings
  refused_first b = rw b

  refused_second : {n : ℕ} {blenders : List Entry} → entries_in blender ≡ accepted blenders → entries_in gauge ≡ refused n
      → compare_recordings blender gauge ≡ refused n
  unfolding compare_recordings
  refused_second b g = rw (b, g)

  -- the refusal, from those of `check_volume`
  pub number_first : (n : ℕ) → refused n ≡ check_volume blender → n ≡ (compare_recordings_call blender gauge).refusal
  unfolding compare_recordings_call
  number_first n e = rw (refused_first (check_refused blender n e))

  pub number_second : (r : Std.Result (Unit {0}) Refusal) → accepted tt ≡ check_volume blender → told r ≡ check_volume gauge
      → number_in r ≡ (compare_recordings_call blender gauge).refusal
  unfolding compare_recordings_call
  number_second (Ok u) b g = rw (compared (check_accepted blender b).1 (check_accepted gauge g).1)
  number_second (Err r) b g = rw (refused_second (check_accepted blender b).1 (check_refused gauge (number_of r) g))

  -- the part, from what `count_entries` finds
  pub nothing_first : (n : ℕ) → refused n ≡ count_in blender → part.Blender 0 0 ≡ (compare_recordings_call blender gauge).value
  unfolding compare_recordings_call
  nothing_first n e = rw (refused_first (entries_refused blender n e))

  pub nothing_second : (b n : ℕ) → accepted b ≡ count_in blender → refused n ≡ count_in gauge
      → part.Blender 0 0 ≡ (compare_recordings_call blender gauge).value
  unfolding compare_recordings_call
  nothing_second b n e q = rw (refused_second (entries_accepted blender b e).1 (entries_refused gauge n q))

-- the last entries of a recording are all its entries
all_last : (string : List ℕ) (r : Found ℕ) → Begins string r → (entries : List Entry) → entries_in string ≡ accepted entries
    → Last string r.next r.value entries
all_last string r begin entries e =
    let f = entries_found string r begin entries e in
    f.1 ∙ ap accepted (ap₂ (λ (x : List Entry) (y : List ℕ). record { entries = x; rest = y }) f.2 f.3)

module _ (blender gauge : List ℕ) (b g : Found ℕ) (b_is : accepted b.value ≡ count_in blender) (g-is : accepted g.value ≡ count_in gauge)
    (b-begins : Begins blender b) (g-begins : Begins gauge g) (blender-bytes : Bytes blender) (gauge-bytes : Bytes gauge) where
  pub part_found : (r : Part) → PartIs blender b.next b.value gauge g.next g.value r → r ≡ (compare_recordings_call blender gauge).value
  unfolding compare_recordings_call
  part_found r is =
      let x = entries_accepted blender b.value b_is in
      let y = entries_accepted gauge g.value g-is in
      let blenders-are = (volume_was blender x.0 blender-bytes x.1).string_is in
      let gauges-are = (volume_was gauge y.0 gauge-bytes y.1).string_is in
      let found = is x.0 y.0 (all_last blender b b-begins x.0 x.1) (all_last gauge g g-begins y.0 y.1) in
      let wanted = part_last (same_entries x.0 y.0) x.0 y.0 in
      rw (compared blender gauge x.1 y.1)
      (found ∙ by_last (length blender) (length gauge) x.0 y.0
      ∙ ap₂ (λ (v w : List ℕ). last_part (length v) (length w) (same_entries x.0 y.0) x.0 y.0) blenders-are gauges-are ∙ sym wanted)

-- ---- the part is within the buffer that it names

abbrev pub Within : (blender gauge : List ℕ) → Part → Type 0
Within blender gauge (part.Blender from n) = from + n ≤ length blender
Within blender gauge (part.Gauge from n) = from + n ≤ length gauge

ratio_within : (blender gauge : List ℕ) (v w : ℕ) (t : Bool) → v ≤ length blender → w ≤ length gauge
    → Within blender gauge (cond t (gauge_rest (length gauge) w) (blender_rest (length blender) v))
ratio_within blender gauge v w true h j = omega arith
ratio_within blender gauge v w false h j = omega arith

last_within : (blender gauge : List ℕ) (v w : ℕ) (blenders gauges : List Entry) → v ≤ length blender → w ≤ length gauge
    → Within blender gauge (choose blenders gauges (blender_rest (length blender) v) (gauge_rest (length gauge) w))
last_within blender gauge v w [] [] h j = omega arith
last_within blender gauge v w (b ∷ blenders) [] h j = omega arith
last_within blender gauge v w [] (g ∷ gauges) h j = omega arith
last_within blender gauge v w (b ∷ blenders) (g ∷ gauges) h j = ratio_within blender gauge v w (ltb g.ratio b.ratio) h j

part_within : (blender gauge : List ℕ) (k : ℕ) (blenders gauges : List Entry) → blender ≡ volume_string blenders → gauge ≡ volume_string gauges
    → Within blender gauge (part_from k blenders gauges)
part_within blender gauge k blenders gauges e f =
    rw (part_last k blenders gauges, ← e, ← f)
    (last_within blender gauge (last_entries (length blender) (drop k blenders)) (last_entries (length gauge) (drop k gauges))
    (drop k blenders) (drop k gauges) (omega arith) (omega arith))

module _ (blender gauge : List ℕ) (blender-bytes : Bytes blender) (gauge-bytes : Bytes gauge) where
  result_within : (x y : Result (List Entry)) → entries_in blender ≡ x → entries_in gauge ≡ y
      → Within blender gauge
      (outcome (part.Blender 0 0) (x >>= λ blenders. y >>= λ gauges. accepted (part_from (same_entries blenders gauges) blenders gauges))).value
  result_within (refused n) y e f = omega arith
  result_within (accepted blenders) (refused n) e f = omega arith
  result_within (accepted blenders) (accepted gauges) e f =
      part_within blender gauge (same_entries blenders gauges) blenders gauges (volume_was blender blenders blender-bytes e).string_is
      (volume_was gauge gauges gauge-bytes f).string_is

  pub call_within : Within blender gauge (compare_recordings_call blender gauge).value
  unfolding compare_recordings_call compare_recordings
  call_within = result_within (entries_in blender) (entries_in gauge) refl refl
