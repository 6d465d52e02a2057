-- What an accepted reading or writing shows of each line, and the lines that make it accepted. Assumes nothing.
use mathlib.Core.Path.{◌≡◌, refl, sym, ◌∙◌}
use mathlib.Core.Bool.{true}
use mathlib.Core.List.{List}
use Prim.Native.Nat.{ℕ, ◌*◌, ◌%◌, ◌≤◌}
use borrow.Author.Tests.{eq-eqb, eqb-true, le-leb, leb-true}
use lib.Dec.{eqb, leb}
use lib.ListN.{length}
use Rattle.laws.specs.Lent.{put_first}
use Rattle.laws.specs.Result.{accepted, ◌>>=◌, ◌>>◌, refuse◌unless◌}
use Rattle.laws.proofs.Results.{after_line, after_unless, no_refusal, accepted_one}
use Rattle.volume.specs.declared.Entry.{Entry}
use Rattle.volume.specs.Volume.{in_range, count_range, entries_in_range, volume_string, numbers_of, entries_of}
use Rattle.volume.specs.Calls.{entries_in, VolumeRead, read_volume, VolumeWritten, write_volume}

-- ---- reading

pub record ReadShows (string list : List ℕ) (r : VolumeRead) : Type 0 where
  pub entries : List Entry
  pub entries_are : entries_in string ≡ accepted entries
  pub room : 4 * length entries ≤ length list
  pub read_is : r ≡ record { count = length entries; list = put_first (numbers_of entries) list }

read_lines : (string list : List ℕ)
    → read_volume string list ≡ (entries_in string >>= λ entries. (refuse 8 unless leb (4 * length entries) (length list))
    >> accepted (record { count = length entries; list = put_first (numbers_of entries) list }))
unfolding read_volume
read_lines string list = refl

pub read_shows : (string list : List ℕ) (r : VolumeRead) → read_volume string list ≡ accepted r → ReadShows string list r
read_shows string list r e =
    after_line (entries_in string) _ (sym (read_lines string list) ∙ e) (λ _. no_refusal) λ entries p q.
    after_unless 8 (leb (4 * length entries) (length list)) _ q no_refusal λ t u.
    record { entries = entries; entries_are = p; room = leb-true (4 * length entries) (length list) t; read_is = sym (accepted_one refl u) }

pub read_accepts : (string list : List ℕ) (entries : List Entry) → entries_in string ≡ accepted entries → 4 * length entries ≤ length list
    → read_volume string list ≡ accepted (record { count = length entries; list = put_first (numbers_of entries) list })
read_accepts string list entries e l = read_lines string list ∙ rw (e, le-leb (4 * length entries) (length list) l)

-- ---- writing

pub record WriteShows (list lent : List ℕ) (w : VolumeWritten) : Type 0 where
  pub whole : length list % 4 ≡ 0
  pub count_in_lem : in_range count_range (length (entries_of list)) ≡ true
  pub in_range_lem : entries_in_range (entries_of list) ≡ true
  pub room : length (volume_string (entries_of list)) ≤ length lent
  pub written_is : w ≡ record { length = length (volume_string (entries_of list)); lent = put_first (volume_string (entries_of list)) lent }

pub write_lines : (list lent : List ℕ)
    → write_volume list lent ≡ ((refuse 16 unless eqb (length list % 4) 0)
    >> ((refuse 15 unless in_range count_range (length (entries_of list)))
    >> ((refuse 15 unless entries_in_range (entries_of list))
    >> ((refuse 8 unless leb (length (volume_string (entries_of list))) (length lent))
    >> accepted (record { length = length (volume_string (entries_of list)); lent = put_first (volume_string (entries_of list)) lent })))))
unfolding write_volume
write_lines list lent = refl

pub write_shows : (list lent : List ℕ) (w : VolumeWritten) → write_volume list lent ≡ accepted w → WriteShows list lent w
write_shows list lent w e =
    after_unless 16 (eqb (length list % 4) 0) _ (sym (write_lines list lent) ∙ e) no_refusal λ t₁ q₁.
    after_unless 15 (in_range count_range (length (entries_of list))) _ q₁ no_refusal λ t₂ q₂.
    after_unless 15 (entries_in_range (entries_of list)) _ q₂ no_refusal λ t₃ q₃.
    after_unless 8 (leb (length (volume_string (entries_of list))) (length lent)) _ q₃ no_refusal λ t₄ q₄.
    record {
      whole = eqb-true (length list % 4) 0 t₁;
      count_in_lem = t₂;
      in_range_lem = t₃;
      room = leb-true (length (volume_string (entries_of list))) (length lent) t₄;
      written_is = sym (accepted_one refl q₄);
    }

pub write_accepts : (list lent : List ℕ) → length list % 4 ≡ 0 → in_range count_range (length (entries_of list)) ≡ true
    → entries_in_range (entries_of list) ≡ true → length (volume_string (entries_of list)) ≤ length lent
    → write_volume list lent ≡ accepted (record { length = length (volume_string (entries_of list)); lent = put_first (volume_string (entries_of list)) lent })
write_accepts list lent h c r l =
    write_lines list lent
    ∙ rw (eq-eqb (length list % 4) 0 h, c, r, le-leb (length (volume_string (entries_of list))) (length lent) l)
