-- The propositions on two recordings, from the laws of the crates `volume` and `comparison`. Assumes nothing.
use mathlib.Core.Path.{◌≡◌, refl, sym, ap, ap₂, subst, ◌∙◌}
use mathlib.Core.Bool.{Bool, true, false, cond, false≢true}
use mathlib.Core.List.{List, [], ◌∷◌, ◌++◌, append_assoc, append-nil}
use mathlib.Core.Logic.{◌↔◌, ◌⊎◌, inl, inr, ⊎_elim}
use Prim.Native.Nat.{ℕ, suc, ◌+◌, ◌≤◌, ◌<◌}
use native.Mathlib.Nat.{zero-add}
use native.Mathlib.Omega.{arith}
use borrow.Author.Tests.{lt-ltb, le-ltb, ltb-true, ltb-false}
use lib.Dec.{ltb}
use lib.ListN.{length, take, drop, length-append, length-drop, take-append-drop}
use denote.Ref.{Bor}
use lib.Seq.{take-length, drop_at, drop-length, length-take-le}
use Rattle.laws.specs.Result.{Result, refused, accepted, Outcome, outcome, ◌>>=◌}
use Rattle.laws.proofs.Results.{after_line, no_refusal, accepted_one}
use Rattle.laws.proofs.Lists.{below_or_not}
use Rattle.laws.proofs.Same.{not_true_is_false}
use Rattle.word.specs.Bytes.{AllBytes}
use Rattle.varint.specs.Number.{number, groups, read_groups}
use Rattle.varint.proofs.Groups.{number_some}
use Rattle.volume.specs.declared.Entry.{Entry}
use Rattle.volume.specs.Volume.{entry_string, entries_string, volume_string}
use Rattle.volume.specs.Calls.{read_value, read_entry, read_entries, entries_in, read_volume}
use Rattle.comparison.specs.declared.Part.{Part}
use Rattle.comparison.specs.declared.Part.TheVariants as part
use Rattle.comparison.specs.Comparison.{same_entry, same_entries, entry_begins, bytes_left, choose, part_from, compare_recordings, compare_recordings_call}
use Rattle.comparison.specs.Parts.{Slice, slice_in}
use Rattle.comparison.proofs.Places.{strings_split, split_length}
use Rattle.comparison.proofs.SameEntry.{same_equal, equal_same}
use Rattle.theorems.specs.ShiftVolume.{Volume}
use Rattle.theorems.specs.BlenderAgainstGauge.{Differ, Rest, BlendersRest, GaugesRest, Chosen, Compared, from_of, length_of, BlenderAgainstGauge}
use Rattle.theorems.proofs.Within.{first, after, volume_within, among, within_not}
use Rattle.theorems.proofs.ShiftVolume.{shift_volume}

-- ── the first place where two recordings don't have the same entry ──

-- k entries are the same, and the next are not
record Split (blenders gauges : List Entry) (k : ℕ) : Type 0 where
  fronts : take k blenders ≡ take k gauges
  differ : Differ (drop k blenders) (drop k gauges)

split_first : (b g : Entry) (blenders gauges : List Entry) (t : Bool) → same_entry b g ≡ t → (k : ℕ) → Split blenders gauges k
    → Split (b ∷ blenders) (g ∷ gauges) (cond t (suc k) 0)
split_first b g blenders gauges true e k s = record { fronts = ap₂ ◌∷◌ (same_equal b g e) s.fronts; differ = s.differ }
split_first b g blenders gauges false e k s =
    record { fronts = refl; differ = λ q. absurd (false≢true (sym e ∙ ap (same_entry b) (sym q) ∙ equal_same b)) }

split : (blenders gauges : List Entry) → Split blenders gauges (same_entries blenders gauges)
unfolding same_entries
split [] gauges = record { fronts = refl; differ = tt }
split (b ∷ blenders) [] = record { fronts = refl; differ = tt }
split (b ∷ blenders) (g ∷ gauges) =
    split_first b g blenders gauges (same_entry b g) refl (same_entries blenders gauges) (split blenders gauges)

-- and conversely
none_same : (blenders gauges : List Entry) → Differ blenders gauges → same_entries blenders gauges ≡ 0
unfolding same_entries
none_same [] gauges d = refl
none_same (b ∷ blenders) [] d = refl
none_same (b ∷ blenders) (g ∷ gauges) d = rw (not_true_is_false (same_entry b g) (λ e. d (same_equal b g e)))

all_same : (same blenders gauges : List Entry) → Differ blenders gauges → same_entries (same ++ blenders) (same ++ gauges) ≡ length same
unfolding same_entries
all_same [] blenders gauges d = none_same blenders gauges d
all_same (e ∷ same) blenders gauges d = rw (equal_same e) (ap suc (all_same same blenders gauges d))

-- ── the bytes from there to the end ──

rest_is : (k : ℕ) (entries : List Entry) → Rest (volume_string entries) (drop k entries) (entry_begins entries k) (bytes_left entries k)
unfolding volume_string
rest_is k entries =
    let before = number (length entries) ++ entries_string (take k entries) in
    let left = entries_string (drop k entries) in
    let whole : number (length entries) ++ entries_string entries ≡ before ++ left =
    ap (λ (s : List ℕ). number (length entries) ++ s) (sym (strings_split k entries))
    ∙ sym (append_assoc (number (length entries)) (entries_string (take k entries)) left) in
    let count = length-append (number (length entries)) (entries_string (take k entries)) in
    record {
      to_end = split_length k entries;
      bytes_are = rw (whole, drop_at before left (entry_begins entries k) count) (take-length left);
    }

volume_rest : (string : List ℕ) (k : ℕ) (entries : List Entry) → Volume string entries
    → Rest string (drop k entries) (entry_begins entries k) (bytes_left entries k)
volume_rest string k entries v = rw v.string_is (rest_is k entries)

rest_length : (string : List ℕ) (left : List Entry) (from n : ℕ) → Rest string left from n → n ≡ length (entries_string left)
rest_length string left from n r =
    let l = length-drop from string in
    sym (length-take-le n (drop from string) (omega (arith, r.to_end, l))) ∙ ap length r.bytes_are

rest_one : (string : List ℕ) (left : List Entry) (v x w y : ℕ) → Rest string left v x → Rest string left w y → (v ≡ w) × (x ≡ y)
rest_one string left v x w y r s =
    let e = rest_length string left v x r ∙ sym (rest_length string left w y s) in
    (omega (arith, e, r.to_end, s.to_end), e)

-- ── which recording ──

module _ (blender gauge : List ℕ) (v x w y : ℕ) where
  abbrev chosen_part : (blenders gauges : List Entry) → Part
  chosen_part blenders gauges = choose blenders gauges (part.Blender v x) (part.Gauge w y)

  chosen_is : (blenders gauges : List Entry) → Rest blender blenders v x → Rest gauge gauges w y
      → Chosen blender gauge blenders gauges (chosen_part blenders gauges)
  chosen_is [] [] r s = r
  chosen_is (b ∷ blenders) [] r s = r
  chosen_is [] (g ∷ gauges) r s = s
  chosen_is (b ∷ blenders) (g ∷ gauges) r s =
      ((λ l. rw (lt-ltb g.ratio b.ratio l) s), (λ l. rw (le-ltb g.ratio b.ratio l) r))

  blenders_part : (blenders : List Entry) (p : Part) → Rest blender blenders v x → BlendersRest blender blenders p → p ≡ part.Blender v x
  blenders_part blenders (part.Blender from n) r h = let e = rest_one blender blenders from n v x h r in ap₂ part.Blender e.0 e.1
  blenders_part blenders (part.Gauge from n) r h = absurd h

  gauges_part : (gauges : List Entry) (p : Part) → Rest gauge gauges w y → GaugesRest gauge gauges p → p ≡ part.Gauge w y
  gauges_part gauges (part.Blender from n) r h = absurd h
  gauges_part gauges (part.Gauge from n) r h = let e = rest_one gauge gauges from n w y h r in ap₂ part.Gauge e.0 e.1

  ratio_part : (b g : Entry) (blenders gauges : List Entry) (p : Part) → Rest blender (b ∷ blenders) v x → Rest gauge (g ∷ gauges) w y
      → Chosen blender gauge (b ∷ blenders) (g ∷ gauges) p → (t : Bool) → ltb g.ratio b.ratio ≡ t
      → p ≡ cond t (part.Gauge w y) (part.Blender v x)
  ratio_part b g blenders gauges p r s h true e = gauges_part (g ∷ gauges) p s (h.0 (ltb-true g.ratio b.ratio e))
  ratio_part b g blenders gauges p r s h false e = blenders_part (b ∷ blenders) p r (h.1 (ltb-false g.ratio b.ratio e))

  is_chosen : (blenders gauges : List Entry) (p : Part) → Rest blender blenders v x → Rest gauge gauges w y
      → Chosen blender gauge blenders gauges p → p ≡ chosen_part blenders gauges
  is_chosen [] [] p r s h = blenders_part [] p r h
  is_chosen (b ∷ blenders) [] p r s h = blenders_part (b ∷ blenders) p r h
  is_chosen [] (g ∷ gauges) p r s h = gauges_part (g ∷ gauges) p s h
  is_chosen (b ∷ blenders) (g ∷ gauges) p r s h = ratio_part b g blenders gauges p r s h (ltb g.ratio b.ratio) refl

-- ── an accepted pair ──

module _ (blender gauge : List ℕ) where
  -- the entries of both
  record Accepts (p : Part) : Type 0 where
    blenders : List Entry
    gauges : List Entry
    blender_read : entries_in blender ≡ accepted blenders
    gauge_read : entries_in gauge ≡ accepted gauges
    part_is : p ≡ part_from (same_entries blenders gauges) blenders gauges

  accepts : (p : Part) → compare_recordings blender gauge ≡ accepted p → Accepts p
  unfolding compare_recordings
  accepts p e =
      after_line (entries_in blender) _ e (λ n q _. no_refusal q) (λ blenders b q.
      after_line (entries_in gauge) _ q (λ n r _. no_refusal r) (λ gauges g r.
      record { blenders = blenders; gauges = gauges; blender_read = b; gauge_read = g; part_is = accepted_one r refl }))

  accepted_with : (blenders gauges : List Entry) → entries_in blender ≡ accepted blenders → entries_in gauge ≡ accepted gauges
      → compare_recordings blender gauge ≡ accepted (part_from (same_entries blenders gauges) blenders gauges)
  unfolding compare_recordings
  accepted_with blenders gauges b g = rw (b, g)

  module _ (blender-bytes : AllBytes blender) (gauge-bytes : AllBytes gauge) where
    shows : (p : Part) → compare_recordings blender gauge ≡ accepted p → Compared blender gauge p
    unfolding part_from
    shows p e =
        let a = accepts p e in
        let k = same_entries a.blenders a.gauges in
        let s = split a.blenders a.gauges in
        let b = (shift_volume.read_iff blender a.blenders blender-bytes).0 a.blender_read in
        let g = (shift_volume.read_iff gauge a.gauges gauge-bytes).0 a.gauge_read in
        record {
          same = take k a.blenders;
          blenders = drop k a.blenders;
          gauges = drop k a.gauges;
          blender_is = rw (take-append-drop k a.blenders) b;
          gauge_is = rw (s.fronts, take-append-drop k a.gauges) g;
          differ = s.differ;
          chosen = subst (Chosen blender gauge (drop k a.blenders) (drop k a.gauges)) (sym a.part_is)
              (chosen_is blender gauge _ _ _ _ (drop k a.blenders) (drop k a.gauges) (volume_rest blender k a.blenders b)
              (volume_rest gauge k a.gauges g));
        }

    is_shown : (p : Part) → Compared blender gauge p → compare_recordings blender gauge ≡ accepted p
    unfolding part_from
    is_shown p c =
        let k = length c.same in
        let all = all_same c.same c.blenders c.gauges c.differ in
        let b = drop_at c.same c.blenders k refl in
        let g = drop_at c.same c.gauges k refl in
        let blender-rest = rw b at (volume_rest blender k (c.same ++ c.blenders) c.blender_is) in
        let gauge-rest = rw g at (volume_rest gauge k (c.same ++ c.gauges) c.gauge_is) in
        accepted_with (c.same ++ c.blenders) (c.same ++ c.gauges)
        ((shift_volume.read_iff blender (c.same ++ c.blenders) blender-bytes).1 c.blender_is)
        ((shift_volume.read_iff gauge (c.same ++ c.gauges) gauge-bytes).1 c.gauge_is)
        ∙ ap accepted (rw (all, b, g) (sym (is_chosen blender gauge _ _ _ _ c.blenders c.gauges p blender-rest gauge-rest c.chosen)))

both_volumes : (blender gauge : List ℕ) → AllBytes blender → AllBytes gauge
    → ((p : Part) × (compare_recordings blender gauge ≡ accepted p))
    ↔ (((entries : List Entry) × Volume blender entries) × ((entries : List Entry) × Volume gauge entries))
both_volumes blender gauge b g = (
  (λ e. let c = shows blender gauge b g e.0 e.1 in ((c.same ++ c.blenders, c.blender_is), (c.same ++ c.gauges, c.gauge_is))),
  (λ v. (
    _,
    accepted_with blender gauge v.0.0 v.1.0 ((shift_volume.read_iff blender v.0.0 b).1 v.0.1)
        ((shift_volume.read_iff gauge v.1.0 g).1 v.1.1),
  )),
)

-- ── a refused pair ──

first_or_second : (b g : Result (List Entry)) (n : ℕ)
    → (b >>= λ blenders. g >>= λ gauges. accepted (part_from (same_entries blenders gauges) blenders gauges)) ≡ refused n
    → (b ≡ refused n) ⊎ (((entries : List Entry) × (b ≡ accepted entries)) × (g ≡ refused n))
first_or_second (refused m) g n e = inl cc
first_or_second (accepted blenders) (refused m) n e = inr ((blenders, refl), cc)
first_or_second (accepted blenders) (accepted gauges) n e = no_refusal e

reading_not : (string : List ℕ) (n : ℕ) → among n (16 ∷ 14 ∷ 15 ∷ []) ≡ false → entries_in string ≡ refused n → ⊥
reading_not string n = within_not n (16 ∷ 14 ∷ 15 ∷ []) (entries_in string) (volume_within first (after first) (after (after first)) string)

module _ (blender gauge : List ℕ) where
  as_entries : (n : ℕ) → (compare_recordings blender gauge ≡ refused n)
      ↔ ((entries_in blender ≡ refused n) ⊎ (((entries : List Entry) × (entries_in blender ≡ accepted entries)) × (entries_in gauge ≡ refused n)))
  unfolding compare_recordings
  as_entries n = (
    first_or_second (entries_in blender) (entries_in gauge) n,
    ⊎_elim (λ (e : entries_in blender ≡ refused n). rw e) (λ e. rw (e.0.1, e.1)),
  )

  as_reading : (list other : List ℕ) (n : ℕ) → AllBytes blender → (n ≡ 8 → ⊥)
      → (compare_recordings blender gauge ≡ refused n)
      ↔ ((read_volume blender list ≡ refused n) ⊎ (((entries : List Entry) × Volume blender entries) × (read_volume gauge other ≡ refused n)))
  as_reading list other n bytes h = (
    (λ e. ⊎_elim
        (λ (b : entries_in blender ≡ refused n). inl ((shift_volume.read_refused blender list n h).1 b))
        (λ b. inr ((b.0.0, (shift_volume.read_iff blender b.0.0 bytes).0 b.0.1), (shift_volume.read_refused gauge other n h).1 b.1))
        ((as_entries n).0 e)),
    (λ e. (as_entries n).1 (⊎_elim
        (λ (b : read_volume blender list ≡ refused n). inl ((shift_volume.read_refused blender list n h).0 b))
        (λ b. inr ((b.0.0, (shift_volume.read_iff blender b.0.0 bytes).1 b.0.1), (shift_volume.read_refused gauge other n h).0 b.1))
        e)),
  )

  -- a number that is none of reading's
  other_number : (n : ℕ) → among n (16 ∷ 14 ∷ 15 ∷ []) ≡ false → compare_recordings blender gauge ≡ refused n → ⊥
  other_number n h e = ⊎_elim
      (λ (b : entries_in blender ≡ refused n). reading_not blender n h b)
      (λ b. reading_not gauge n h b.1)
      ((as_entries n).0 e)

-- ── the two calls ──

module _ (blender gauge : List ℕ) where
  of_accepted : (p : Part) → compare_recordings blender gauge ≡ accepted p
      → ((compare_recordings_call blender gauge).refusal ≡ 0) × ((compare_recordings_call blender gauge).value ≡ p)
  unfolding compare_recordings_call
  of_accepted p e = rw e (refl, refl)

  of_refused : (n : ℕ) → compare_recordings blender gauge ≡ refused n
      → ((compare_recordings_call blender gauge).refusal ≡ n) × ((compare_recordings_call blender gauge).value ≡ part.Blender 0 0)
  unfolding compare_recordings_call
  of_refused n e = rw e (refl, refl)

-- the part of an accepted pair begins after the count
ratio_after : (t : Bool) (p q : Part) → 1 ≤ from_of p → 1 ≤ from_of q → 1 ≤ from_of (cond t q p)
ratio_after true p q h j = j
ratio_after false p q h j = h

choice_after : (blenders gauges : List Entry) (p q : Part) → 1 ≤ from_of p → 1 ≤ from_of q → 1 ≤ from_of (choose blenders gauges p q)
choice_after [] [] p q h j = h
choice_after (b ∷ blenders) [] p q h j = h
choice_after [] (g ∷ gauges) p q h j = j
choice_after (b ∷ blenders) (g ∷ gauges) p q h j = ratio_after (ltb g.ratio b.ratio) p q h j

part_after : (k : ℕ) (blenders gauges : List Entry) → 1 ≤ from_of (part_from k blenders gauges)
unfolding part_from
part_after k blenders gauges =
    choice_after (drop k blenders) (drop k gauges) _ _ (omega (arith, number_some (length blenders))) (omega (arith, number_some (length gauges)))

abbrev left : Result Part → Outcome Part
left r = outcome (part.Blender 0 0) r

module _ (blender gauge : List ℕ) where
  from_after : (p : Part) → compare_recordings blender gauge ≡ accepted p → 1 ≤ from_of p
  from_after p e = let a = accepts blender gauge p e in rw a.part_is (part_after (same_entries a.blenders a.gauges) a.blenders a.gauges)

  calls_agree : (r : Result Part) → compare_recordings blender gauge ≡ r
      → (((left r).refusal ≡ 0 → ⊥) ↔ ((left r).value ≡ part.Blender 0 0)) × (((left r).refusal ≡ 0) ↔ (1 ≤ from_of (left r).value))
  calls_agree (refused n) e =
      let h : n ≡ 0 → ⊥ = λ z. other_number blender gauge 0 refl (rw z at e) in
      (((λ _. refl), (λ _. h)), ((λ z. absurd (h z)), (λ l. absurd (omega arith))))
  calls_agree (accepted p) e =
      let l = from_after p e in (
        ((λ h. absurd (h refl)), (λ q. absurd (let z : from_of p ≡ 0 = ap from_of q in omega arith))),
        ((λ _. l), (λ _. refl)),
      )

  agrees : (((compare_recordings_call blender gauge).refusal ≡ 0 → ⊥) ↔ ((compare_recordings_call blender gauge).value ≡ part.Blender 0 0))
      × (((compare_recordings_call blender gauge).refusal ≡ 0) ↔ (1 ≤ from_of (compare_recordings_call blender gauge).value))
  unfolding compare_recordings_call
  agrees = calls_agree (compare_recordings blender gauge) refl

-- ── the same string ──

entry_some : (e : Entry) (entries : List Entry) → 1 ≤ length (entries_string (e ∷ entries))
unfolding entries_string entry_string
entry_some e entries =
    let m = number e.minutes in
    let l = number e.litres in
    let r = number e.ratio in
    let p = number e.product in
    omega (
      arith,
      number_some e.minutes,
      length-append m l,
      length-append (m ++ l) r,
      length-append (m ++ l ++ r) p,
      length-append (m ++ l ++ r ++ p) (entries_string entries),
    )

blenders_some : (string : List ℕ) (e : Entry) (left : List Entry) (p : Part) → BlendersRest string (e ∷ left) p → 1 ≤ length_of p
blenders_some string e left (part.Blender from n) r = omega (arith, rest_length string (e ∷ left) from n r, entry_some e left)
blenders_some string e left (part.Gauge from n) r = absurd r

gauges_some : (string : List ℕ) (e : Entry) (left : List Entry) (p : Part) → GaugesRest string (e ∷ left) p → 1 ≤ length_of p
gauges_some string e left (part.Blender from n) r = absurd r
gauges_some string e left (part.Gauge from n) r = omega (arith, rest_length string (e ∷ left) from n r, entry_some e left)

-- where the gauge's part is handed back, it has bytes
gauges_left : (blender gauge : List ℕ) (from n : ℕ) (blenders gauges : List Entry) → Chosen blender gauge blenders gauges (part.Gauge from n)
    → (left : List Entry) × (take n (drop from gauge) ≡ entries_string left) × (1 ≤ length (entries_string left))
gauges_left blender gauge from n [] [] h = absurd h
gauges_left blender gauge from n (b ∷ blenders) [] h = absurd h
gauges_left blender gauge from n [] (g ∷ gauges) h = (g ∷ gauges, h.bytes_are, entry_some g gauges)
gauges_left blender gauge from n (b ∷ blenders) (g ∷ gauges) h = ⊎_elim
    (λ (j : g.ratio < b.ratio). (g ∷ gauges, (h.0 j).bytes_are, entry_some g gauges))
    (λ j. absurd (h.1 j))
    (below_or_not g.ratio b.ratio)

module _ (blender gauge : List ℕ) (p : Part) (none : length_of p ≡ 0) where
  none_left : (blenders gauges : List Entry) → Chosen blender gauge blenders gauges p → (blenders ≡ []) × (gauges ≡ [])
  none_left [] [] h = (refl, refl)
  none_left (b ∷ blenders) [] h = let l = blenders_some blender b blenders p h in absurd (omega arith)
  none_left [] (g ∷ gauges) h = let l = gauges_some gauge g gauges p h in absurd (omega arith)
  none_left (b ∷ blenders) (g ∷ gauges) h = ⊎_elim
      (λ (j : g.ratio < b.ratio). let l = gauges_some gauge g gauges p (h.0 j) in absurd (omega arith))
      (λ j. let l = blenders_some blender b blenders p (h.1 j) in absurd (omega arith))
      (below_or_not g.ratio b.ratio)

  none_same_string : Compared blender gauge p → blender ≡ gauge
  none_same_string c =
      let n = none_left c.blenders c.gauges c.chosen in
      c.blender_is.string_is ∙ ap (λ (l : List Entry). volume_string (c.same ++ l)) (n.0 ∙ sym n.1) ∙ sym c.gauge_is.string_is

self_none : (entries : List Entry) → length_of (part_from (same_entries entries entries) entries entries) ≡ 0
unfolding part_from entries_string
self_none entries =
    let k : same_entries entries entries ≡ length entries = rw append-nil at (all_same entries [] [] tt) in
    rw (k, drop-length entries)

same_string_none : (blender gauge : List ℕ) (p : Part) → compare_recordings blender gauge ≡ accepted p → blender ≡ gauge → length_of p ≡ 0
same_string_none blender gauge p e q =
    let a = accepts blender gauge p e in
    let same : a.blenders ≡ a.gauges = accepted_one a.blender_read (ap entries_in q ∙ a.gauge_read) in
    ap length_of (a.part_is ∙ ap (λ (l : List Entry). part_from (same_entries a.blenders l) a.blenders l) (sym same)) ∙ self_none a.blenders

-- ── the slice ──

slice_begins : (blender gauge : Bor (List ℕ)) (p : Part) → 1 ≤ from_of p → Compared blender.now gauge.now p
    → slice_in blender gauge p ≡ record { begins = blender.ref_ptr; bytes = [] } → ⊥
slice_begins blender gauge (part.Blender from n) l c e =
    let z : from + blender.ref_ptr.1 ≡ blender.ref_ptr.1 = ap (λ (s : Slice). s.begins.1) e in omega arith
slice_begins blender gauge (part.Gauge from n) l c e =
    let h = gauges_left blender.now gauge.now from n c.blenders c.gauges c.chosen in
    let z = ap length (sym h.1 ∙ ap (λ (s : Slice). s.bytes) e) in
    omega (arith, z, h.2)

slice_refused : (blender gauge : Bor (List ℕ)) → slice_in blender gauge (part.Blender 0 0) ≡ record { begins = blender.ref_ptr; bytes = [] }
slice_refused blender gauge = ap (λ (n : ℕ). record { begins = (blender.ref_ptr.0, n); bytes = [] }) (zero-add blender.ref_ptr.1)

module _ (blender gauge : Bor (List ℕ)) (blender-bytes : AllBytes blender.now) (gauge-bytes : AllBytes gauge.now) where
  slices_agree : (r : Result Part) → compare_recordings blender.now gauge.now ≡ r
      → ((left r).refusal ≡ 0 → ⊥) ↔ (slice_in blender gauge (left r).value ≡ record { begins = blender.ref_ptr; bytes = [] })
  slices_agree (refused n) e =
      let h : n ≡ 0 → ⊥ = λ z. other_number blender.now gauge.now 0 refl (rw z at e) in
      ((λ _. slice_refused blender gauge), (λ _. h))
  slices_agree (accepted p) e = (
    (λ h. absurd (h refl)),
    (λ q. absurd (slice_begins blender gauge p (from_after blender.now gauge.now p e)
        (shows blender.now gauge.now blender-bytes gauge-bytes p e) q)),
  )

  agree_slice : ((compare_recordings_call blender.now gauge.now).refusal ≡ 0 → ⊥)
      ↔ (slice_in blender gauge (compare_recordings_call blender.now gauge.now).value ≡ record { begins = blender.ref_ptr; bytes = [] })
  unfolding compare_recordings_call
  agree_slice = slices_agree (compare_recordings blender.now gauge.now) refl

pub blender_against_gauge : BlenderAgainstGauge
unfolding compare_recordings entries_in read_entries read_entry read_value read_groups same_entries part_from entries_string entry_string volume_string number groups
blender_against_gauge = record {
  compared_iff = λ blender gauge p b g. (shows blender gauge b g p, is_shown blender gauge b g p);
  accepted_iff = both_volumes;
  refused_iff = as_reading;
  never_8 = λ blender gauge. other_number blender gauge 8 refl;
  of_accepted = of_accepted;
  of_refused = of_refused;
  agree = λ blender gauge. (agrees blender gauge).0;
  agree_0 = λ blender gauge. (agrees blender gauge).1;
  agree_slice = agree_slice;
  none_iff = λ blender gauge p b g e.
      ((λ n. none_same_string blender gauge p n (shows blender gauge b g p e)), same_string_none blender gauge p e);
  both_empty = refl;
  both_same = refl;
  gauge_ended = refl;
  blender_ended = refl;
  minutes_differ = refl;
  litres_differ = refl;
  product_differs = refl;
  gauge_smaller = refl;
  gauge_greater = refl;
  gauge_129 = refl;
  gauge_two_bytes = refl;
  blender_two_bytes = refl;
  after_126_gauge = refl;
  after_126_blender = refl;
  blender_refused = refl;
  gauge_refused = refl;
  both_refused = refl;
  bytes_after = refl;
}
