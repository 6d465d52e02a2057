-- What the loop over two recordings keeps, and the part that it finds. Assumes nothing.
use mathlib.Core.Path.{◌≡◌, refl, sym, ap₂, ◌∙◌}
use mathlib.Core.Bool.{Bool, true, false, cond}
use mathlib.Core.List.{List, [], ◌∷◌}
use Prim.Native.Nat.{ℕ, suc, ◌+◌, ◌-◌, ◌<◌, ◌≤◌, min}
use borrow.Author.Tests.{ltb-true, ltb-false}
use native.Mathlib.Omega.{arith}
use lib.Dec.{ltb}
use lib.ListN.{length, drop}
use Rattle.varint.specs.declared.Found.{Found}
use Rattle.volume.specs.declared.Entry.{Entry}
use Rattle.volume.specs.Found.{EntryReadAgain}
use Rattle.volume.proofs.EntryByEntry.{entries_count}
use Rattle.volume.proofs.Undo.{Bytes}
use Rattle.comparison.specs.declared.Part.{Part}
use Rattle.comparison.specs.Comparison.{same_entry}
use Rattle.comparison.specs.Found.{Last, PartIs, part_of_last, blender_rest, gauge_rest, last_entries}
use Rattle.comparison.proofs.Places.{last_begin, last_none, First, last_first}

-- ---- the part of the last entries

module _ (n m : ℕ) where
  part_same : (b g : Entry) (blender gauge : List Entry) → same_entry b g ≡ true
      → part_of_last n m (b ∷ blender) (g ∷ gauge) ≡ part_of_last n m blender gauge
  unfolding part_of_last
  part_same b g blender gauge e = rw e

  part_differs : (b g : Entry) (blender gauge : List Entry) → same_entry b g ≡ false
      → part_of_last n m (b ∷ blender) (g ∷ gauge)
      ≡ cond (ltb g.ratio b.ratio) (gauge_rest m (last_entries m (g ∷ gauge))) (blender_rest n (last_entries n (b ∷ blender)))
  unfolding part_of_last
  part_differs b g blender gauge e = rw e

  -- the gauge's goes on where the blender's has ended
  gauge_longer : (gauge : List Entry) → 0 < length gauge → part_of_last n m [] gauge ≡ gauge_rest m (last_entries m gauge)
  unfolding part_of_last
  gauge_longer [] l = absurd (omega arith)
  gauge_longer (g ∷ gauge) l = refl

  -- the gauge's has ended
  gauge_ended : (blender : List Entry) → part_of_last n m blender [] ≡ blender_rest n (last_entries n blender)
  unfolding part_of_last
  gauge_ended [] = refl
  gauge_ended (b ∷ blender) = refl

-- ---- the loop

module _ (blender : List ℕ) (first n : ℕ) (gauge : List ℕ) (start m : ℕ) where
  -- the part of the last entries of both
  abbrev part_of_both : (blenders gauges : List Entry) → Part
  part_of_both = part_of_last (length blender) (length gauge)

  -- the entries that are left after k turns, of which the part is that of all
  pub record Left (blenders gauges : List Entry) (k at there : ℕ) : Type 0 where
    pub blenders_left : List Entry
    pub gauges_left : List Entry
    pub blender_last : Last blender at (n - k) blenders_left
    pub gauge_last : Last gauge there (m - k) gauges_left
    pub same_part : part_of_both blenders gauges ≡ part_of_both blenders_left gauges_left

  abbrev pub Comes : (k at there : ℕ) → Type 0
  Comes k at there = (blenders gauges : List Entry) → Last blender first n blenders → Last gauge start m gauges → Left blenders gauges k at there

  pub starts : Comes 0 first start
  starts blenders gauges b g =
      let x : n - 0 ≡ n = omega arith in
      let y : m - 0 ≡ m = omega arith in
      record { blenders_left = blenders; gauges_left = gauges; blender_last = rw x b; gauge_last = rw y g; same_part = refl }

  module _ (k at there : ℕ) (come : Comes k at there) where
    module _ (l : k < n) (j : k < m) (b g : Found Entry) (b_is : EntryReadAgain blender at b) (g-is : EntryReadAgain gauge there g) where
      -- the next entry of each and those after it
      pub record Next (blenders gauges : List Entry) : Type 0 where
        pub left : Left blenders gauges k at there
        pub blender_first : First blender b.next (n - (k + 1)) b.value left.blenders_left
        pub gauge_first : First gauge g.next (m - (k + 1)) g.value left.gauges_left

      next : (blenders gauges : List Entry) → Last blender first n blenders → Last gauge start m gauges → Next blenders gauges
      next blenders gauges p q =
          let left = come blenders gauges p q in
          let x : n - k ≡ suc (n - (k + 1)) = omega arith in
          let y : m - k ≡ suc (m - (k + 1)) = omega arith in
          record {
            left = left;
            blender_first = last_first blender at (n - (k + 1)) b left.blenders_left b_is (rw x at left.blender_last);
            gauge_first = last_first gauge there (m - (k + 1)) g left.gauges_left g-is (rw y at left.gauge_last);
          }

      pub turns : same_entry b.value g.value ≡ true → Comes (k + 1) b.next g.next
      turns e blenders gauges p q =
          let x = next blenders gauges p q in
          record {
            blenders_left = x.blender_first.others;
            gauges_left = x.gauge_first.others;
            blender_last = x.blender_first.others_last;
            gauge_last = x.gauge_first.others_last;
            same_part = x.left.same_part ∙ ap₂ part_of_both x.blender_first.entries_are x.gauge_first.entries_are
                ∙ part_same _ _ b.value g.value _ _ e;
          }

      module _ (blender-bytes : Bytes blender) (gauge-bytes : Bytes gauge) (in-blender : at ≤ length blender) (in-gauge : there ≤ length gauge)
          (e : same_entry b.value g.value ≡ false) where
        differs : (blenders gauges : List Entry) → Last blender first n blenders → Last gauge start m gauges
            → part_of_both blenders gauges
            ≡ cond (ltb g.value.ratio b.value.ratio) (gauge_rest (length gauge) there) (blender_rest (length blender) at)
        differs blenders gauges p q =
            let x = next blenders gauges p q in
            let at-is = last_begin blender at (n - k) _ blender-bytes in-blender x.left.blender_last in
            let there-is = last_begin gauge there (m - k) _ gauge-bytes in-gauge x.left.gauge_last in
            x.left.same_part ∙ ap₂ part_of_both x.blender_first.entries_are x.gauge_first.entries_are
            ∙ part_differs _ _ b.value g.value _ _ e
            ∙ ap₂ (λ (v w : ℕ). cond (ltb g.value.ratio b.value.ratio) (gauge_rest (length gauge) v) (blender_rest (length blender) w))
            (sym (rw (← x.gauge_first.entries_are) there-is)) (sym (rw (← x.blender_first.entries_are) at-is))

        pub differ : (r : Part) → r ≡ cond (ltb g.value.ratio b.value.ratio) (gauge_rest (length gauge) there) (blender_rest (length blender) at)
            → PartIs blender first n gauge start m r
        differ r h blenders gauges p q = h ∙ sym (differs blenders gauges p q)

    module _ (r : Part) where
      pub gauge_has_ended : Bytes blender → at ≤ length blender → m ≤ k → r ≡ blender_rest (length blender) at → PartIs blender first n gauge start m r
      gauge_has_ended bytes within l h blenders gauges p q =
          let left = come blenders gauges p q in
          let y : m - k ≡ 0 = omega arith in
          let none = last_none gauge there left.gauges_left (rw y at left.gauge_last) in
          let at-is = last_begin blender at (n - k) _ bytes within left.blender_last in
          h ∙ sym (left.same_part ∙ rw (none, gauge_ended, ← at-is))

      pub blender_has_ended : Bytes gauge → there ≤ length gauge → n ≤ k → k < m → r ≡ gauge_rest (length gauge) there
          → PartIs blender first n gauge start m r
      blender_has_ended bytes within l j h blenders gauges p q =
          let left = come blenders gauges p q in
          let x : n - k ≡ 0 = omega arith in
          let none = last_none blender at left.blenders_left (rw x at left.blender_last) in
          let count = entries_count (m - k) (drop there gauge) _ left.gauge_last in
          let there-is = last_begin gauge there (m - k) _ bytes within left.gauge_last in
          h ∙ sym (left.same_part ∙ rw (none, gauge_longer _ _ left.gauges_left (omega arith), ← there-is))

      -- one of the two has ended, or both have
      pub ended : Bytes blender → Bytes gauge → at ≤ length blender → there ≤ length gauge → min n m ≤ k → k ≤ min n m
          → (longer : Bool) → ltb n m ≡ longer → r ≡ cond longer (gauge_rest (length gauge) there) (blender_rest (length blender) at)
          → PartIs blender first n gauge start m r
      ended b g i j l h true t e = let lt = ltb-true n m t in blender_has_ended g j (omega arith) (omega arith) e
      ended b g i j l h false t e = let ge = ltb-false n m t in gauge_has_ended b i (omega arith) e
