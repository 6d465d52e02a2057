-- Writing a volume from a list, in the order of the refusals. Assumes nothing.
use mathlib.Core.Path.{◌≡◌, refl, sym, ap, ◌∙◌}
use mathlib.Core.Bool.{Bool, true, false}
use mathlib.Core.List.{List, ◌++◌}
use Prim.Native.Nat.{ℕ, ◌+◌, ◌*◌, ◌/◌, ◌%◌, ◌<◌, ◌≤◌}
use native.Mathlib.Nat.{zero-add}
use native.Mathlib.Omega.{arith}
use borrow.Author.Tests.{eq-eqb, ne_eqb, le-leb, lt-leb}
use lib.ListN.{length, length-append}
use lib.Seq.{sets, sets-eq}
use Rattle.laws.specs.Lent.{put_first}
use Rattle.laws.specs.Result.{refused, accepted, ◌>>◌, refuse◌unless◌}
use Rattle.laws.proofs.Results.{no_refusal, accepted_one}
use Rattle.laws.proofs.Stores.{sets_append}
use Rattle.varint.specs.Number.{number}
use Rattle.volume.specs.Volume.{in_range, count_range, entries_in_range, entries_string, volume_string, entries_of}
use Rattle.volume.specs.Calls.{write_volume}
use Rattle.volume.specs.Found.{entries_length}
use Rattle.volume.proofs.Entries.{entries_length_lem}

-- what the length of entries, or its refusal, says of them
measured_refused : (b : Bool) (n m : ℕ) → ((refuse 15 unless b) >> accepted n) ≡ refused m → (b ≡ false) × (m ≡ 15)
measured_refused true n m e = no_refusal e
measured_refused false n m e = (refl, cc)

measured_accepted : (b : Bool) (n m : ℕ) → ((refuse 15 unless b) >> accepted n) ≡ accepted m → (b ≡ true) × (n ≡ m)
measured_accepted true n m e = (refl, accepted_one refl e)
measured_accepted false n m e = no_refusal (sym e)

module _ (list lent : List ℕ) where
  pub writes_part : (length list % 4 ≡ 0 → ⊥) → write_volume list lent ≡ refused 16
  unfolding write_volume
  writes_part h = rw (ne_eqb (length list % 4) 0 h)

  module _ (whole : length list % 4 ≡ 0) where
    abbrev n : ℕ
    n = length list / 4

    whole_entries : length list ≡ 4 * n
    whole_entries = omega arith

    count_is : length (entries_of list) ≡ n
    count_is = entries_length_lem n list whole_entries

    pub writes_many : 2000 < n → write_volume list lent ≡ refused 15
    unfolding write_volume
    writes_many h = rw (eq-eqb (length list % 4) 0 whole, count_is, le-leb 0 n (omega arith), lt-leb n 2000 h)

    module _ (few : n ≤ 2000) where
      counted : in_range count_range (length (entries_of list)) ≡ true
      counted = rw (count_is, le-leb 0 n (omega arith), le-leb n 2000 few)

      pub writes_out_of_range : (m : ℕ) → entries_length (entries_of list) ≡ refused m → write_volume list lent ≡ refused m
      unfolding write_volume entries_length
      writes_out_of_range m e =
          let h = measured_refused (entries_in_range (entries_of list)) _ m e in
          rw (eq-eqb (length list % 4) 0 whole, counted, h.0, h.1)

      module _ (bytes : ℕ) (e : entries_length (entries_of list) ≡ accepted bytes) where
        ranged : (entries_in_range (entries_of list) ≡ true) × (length (entries_string (entries_of list)) ≡ bytes)
        unfolding entries_length
        ranged = measured_accepted (entries_in_range (entries_of list)) (length (entries_string (entries_of list))) bytes e

        string_is : volume_string (entries_of list) ≡ number n ++ entries_string (entries_of list)
        unfolding volume_string
        string_is = ap (λ (k : ℕ). number k ++ entries_string (entries_of list)) count_is

        length_is : length (volume_string (entries_of list)) ≡ length (number n) + bytes
        length_is = ap length string_is ∙ length-append (number n) (entries_string (entries_of list)) ∙ ap (λ (k : ℕ). length (number n) + k) ranged.1

        pub writes_short : length lent < length (number n) + bytes → write_volume list lent ≡ refused 8
        unfolding write_volume
        writes_short h =
            rw (eq-eqb (length list % 4) 0 whole, counted, ranged.0, length_is, lt-leb (length (number n) + bytes) (length lent) h)

        pub writes_room : length (number n) + bytes ≤ length lent → length (number n) + length (entries_string (entries_of list)) ≤ length lent
        writes_room h = omega (arith, ranged.1)

        pub writes : (after : List ℕ) → length (number n) + bytes ≤ length lent
            → after ≡ sets (sets lent 0 (number n)) (length (number n)) (entries_string (entries_of list))
            → write_volume list lent ≡ accepted (record { length = length (number n) + bytes; lent = after })
        unfolding write_volume
        writes after h q =
            let string = volume_string (entries_of list) in
            let s : sets lent 0 string ≡ after =
            ap (sets lent 0) string_is ∙ sets_append lent 0 (number n) (entries_string (entries_of list)) ∙ rw zero-add (sym q) in
            let p : put_first string lent ≡ after = sym (rw zero-add at (sets-eq string lent 0 (omega (arith, length_is)))) ∙ s in
            rw (eq-eqb (length list % 4) 0 whole, counted, ranged.0, p, length_is, le-leb (length (number n) + bytes) (length lent) h)
