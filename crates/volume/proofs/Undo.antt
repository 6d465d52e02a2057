-- What is written is read back, and what is read is what would have been written. Assumes nothing.
use mathlib.Core.Path.{◌≡◌, refl, sym, ap, ◌∙◌}
use mathlib.Core.Bool.{true}
use mathlib.Core.List.{List, [], ◌∷◌, ◌++◌, append_assoc, append-nil}
use Prim.Native.Nat.{ℕ, zero, suc, ◌*◌, ◌/◌, ◌^◌, ◌<◌, ◌≤◌}
use native.Mathlib.Omega.{arith}
use lib.ListN.{length, get_or, take, drop}
use lib.Seq.{take_at}
use Rattle.laws.specs.Lent.{put_first}
use Rattle.laws.specs.Result.{accepted, ◌>>=◌, ◌>>◌, refuse◌unless◌}
use Rattle.laws.proofs.Results.{after_line, no_refusal, accepted_one}
use Rattle.laws.proofs.Lists.{append_below}
use Rattle.laws.proofs.Same.{and_left, and_right}
use Rattle.varint.specs.Number.{number, Reading, is, ended, malformed, read_number}
use Rattle.varint.proofs.Groups.{number_bytes}
use Rattle.varint.proofs.Reading.{read_written, written_read}
use Rattle.volume.specs.declared.Entry.{Entry}
use Rattle.volume.specs.declared.Range.{Range}
use Rattle.volume.specs.Volume.{in_range, count_range, minutes_range, litres_range, ratio_range, product_range, most_groups, entry_in_range, entries_in_range, entry_string, entries_string, volume_string, numbers_of, entries_of}
use Rattle.volume.specs.Calls.{ValueRead, EntryRead, EntriesRead, number_read, read_value, read_entry, read_entries, entries_in, VolumeRead, read_volume, VolumeWritten, write_volume}
use Rattle.volume.proofs.Entries.{numbers_length, entries_numbers, numbers_entries, entries_length_lem}
use Rattle.volume.proofs.Values.{ranged_value, range_most}
use Rattle.volume.proofs.Ranges.{minutes_in, litres_in, ratio_in, product_in, volume_lines, volume_in_range}
use Rattle.volume.proofs.FourNumbers.{entry_of, entry_four}
use Rattle.volume.proofs.EntryByEntry.{entries_zero, entries_suc, entries_first, none_left, entries_count}
use Rattle.volume.proofs.Volumes.{whole_found}
use Rattle.volume.proofs.Shows.{read_shows, read_accepts, write_shows, write_accepts}

-- ---- what is written is read back

module _ (range : Range) (small : range.most < 128 ^ 3) where
  pub value_back : (n : ℕ) (rest : List ℕ) → in_range range n ≡ true → read_value range (number n ++ rest) ≡ accepted (record { value = n; rest = rest })
  unfolding read_value
  value_back n rest h =
      let l : n < 128 ^ 3 = omega (arith, range_most range n h) in
      rw (read_written most_groups n rest (omega arith) (omega arith) l, h)

-- the string of an entry, one number after another
pub entry_before : (e : Entry) (rest : List ℕ)
    → entry_string e ++ rest ≡ number e.minutes ++ (number e.litres ++ (number e.ratio ++ (number e.product ++ rest)))
unfolding entry_string
entry_before e rest = rw (append_assoc, append_assoc, append_assoc)

pub entry_back : (e : Entry) (rest : List ℕ) → entry_in_range e ≡ true → read_entry (entry_string e ++ rest) ≡ accepted (record { entry = e; rest = rest })
unfolding read_entry
entry_back e rest h =
    rw (
      entry_before e rest,
      value_back minutes_range (omega arith) e.minutes (number e.litres ++ (number e.ratio ++ (number e.product ++ rest))) (minutes_in e h),
      value_back litres_range (omega arith) e.litres (number e.ratio ++ (number e.product ++ rest)) (litres_in e h),
      value_back ratio_range (omega arith) e.ratio (number e.product ++ rest) (ratio_in e h),
      value_back product_range (omega arith) e.product rest (product_in e h),
    )

pub string_cons : (e : Entry) (entries : List Entry) (rest : List ℕ)
    → entries_string (e ∷ entries) ++ rest ≡ entry_string e ++ (entries_string entries ++ rest)
unfolding entries_string
string_cons e entries rest = rw append_assoc

pub range_first : (e : Entry) (entries : List Entry) → entries_in_range (e ∷ entries) ≡ true → entry_in_range e ≡ true
unfolding entries_in_range
range_first e entries h = and_left (entry_in_range e) (entries_in_range entries) h

pub range_others : (e : Entry) (entries : List Entry) → entries_in_range (e ∷ entries) ≡ true → entries_in_range entries ≡ true
unfolding entries_in_range
range_others e entries h = and_right (entry_in_range e) (entries_in_range entries) h

pub entries_back : (entries : List Entry) (rest : List ℕ) → entries_in_range entries ≡ true
    → read_entries (length entries) (entries_string entries ++ rest) ≡ accepted (record { entries = entries; rest = rest })
unfolding entries_string
entries_back [] rest h = entries_zero rest
entries_back (e ∷ entries) rest h =
    entries_suc (length entries) (entries_string (e ∷ entries) ++ rest)
    ∙ rw (
      string_cons e entries rest,
      entry_back e (entries_string entries ++ rest) (range_first e entries h),
      entries_back entries rest (range_others e entries h),
    )

pub volume_back : (entries : List Entry) → in_range count_range (length entries) ≡ true → entries_in_range entries ≡ true
    → entries_in (volume_string entries) ≡ accepted entries
unfolding entries_in volume_string
volume_back entries c h =
    let s = rw append-nil at (entries_back entries [] h) in
    rw (value_back count_range (omega arith) (length entries) (entries_string entries) c, s)

-- ---- what is written is bytes

entry_bytes : (e : Entry) (i : ℕ) → get_or (entry_string e) i 0 < 256
unfolding entry_string
entry_bytes e =
    let m = number e.minutes in
    let l = number e.litres in
    let r = number e.ratio in
    append_below (m ++ l ++ r) (number e.product)
    (append_below (m ++ l) r (append_below m l (number_bytes e.minutes) (number_bytes e.litres)) (number_bytes e.ratio))
    (number_bytes e.product)

pub entries_bytes : (entries : List Entry) (i : ℕ) → get_or (entries_string entries) i 0 < 256
unfolding entries_string
entries_bytes [] = λ i. omega arith
entries_bytes (e ∷ entries) = append_below (entry_string e) (entries_string entries) (entry_bytes e) (entries_bytes entries)

pub volume_bytes : (entries : List Entry) (i : ℕ) → get_or (volume_string entries) i 0 < 256
unfolding volume_string
volume_bytes entries = append_below (number (length entries)) (entries_string entries) (number_bytes (length entries)) (entries_bytes entries)

-- ---- what is read is what would have been written

-- the elements of a list after others are bytes where all are
pub after_below : (a b : List ℕ) → ((i : ℕ) → get_or (a ++ b) i 0 < 256) → (i : ℕ) → get_or b i 0 < 256
after_below [] b h = h
after_below (x ∷ a) b h = after_below a b (λ i. h (suc i))

abbrev pub Bytes : List ℕ → Type 0
Bytes s = (i : ℕ) → get_or s i 0 < 256

-- a value that was read: the string begins with it
pub record Written (string : List ℕ) (v : ValueRead) : Type 0 where
  pub string_is : string ≡ number v.value ++ v.rest
  pub rest_bytes : Bytes v.rest

number_was : (string : List ℕ) (f : Reading) (v : ValueRead) → number_read f ≡ accepted v → f ≡ is v.value v.rest
number_was string (is value rest) v e = ap (λ (x : ValueRead). is x.value x.rest) (accepted_one refl e)
number_was string ended v e = no_refusal (sym e)
number_was string malformed v e = no_refusal (sym e)

value_lines : (range : Range) (string : List ℕ)
    → read_value range string ≡ (number_read (read_number most_groups string) >>= λ read. (refuse 15 unless in_range range read.value) >> accepted read)
unfolding read_value
value_lines range string = refl

value_number : (range : Range) (string : List ℕ) (v : ValueRead) → read_value range string ≡ accepted v → read_number most_groups string ≡ is v.value v.rest
value_number range string v e =
    after_line (number_read (read_number most_groups string)) _ (sym (value_lines range string) ∙ e) (λ n q _. no_refusal q) (λ read p q.
    number_was string (read_number most_groups string) v (p ∙ ap accepted (ranged_value (in_range range read.value) read v q).1))

pub value_was : (range : Range) (string : List ℕ) (v : ValueRead) → Bytes string → read_value range string ≡ accepted v → Written string v
value_was range string v bytes e =
    let w = written_read most_groups (omega arith) string v.value v.rest bytes (value_number range string v e) in
    record {
      string_is = w.0;
      rest_bytes = after_below (number v.value) v.rest (rw w.0 at bytes);
    }

-- an entry that was read
pub record EntryWritten (string : List ℕ) (found : EntryRead) : Type 0 where
  pub string_is : string ≡ entry_string found.entry ++ found.rest
  pub rest_bytes : Bytes found.rest

entry_was : (string : List ℕ) (found : EntryRead) → Bytes string → read_entry string ≡ accepted found → EntryWritten string found
entry_was string found bytes e =
    let f = entry_four string found e in
    let m = value_was minutes_range string f.minutes bytes f.is_minutes in
    let l = value_was litres_range f.minutes.rest f.litres m.rest_bytes f.is_litres in
    let r = value_was ratio_range f.litres.rest f.ratio l.rest_bytes f.is_ratio in
    let p = value_was product_range f.ratio.rest f.product r.rest_bytes f.is_product in
    rw f.entry_is_lem
    (record {
      string_is = m.string_is ∙ rw (l.string_is, r.string_is, p.string_is) (sym (entry_before (entry_of f.minutes f.litres f.ratio f.product).entry f.product.rest));
      rest_bytes = p.rest_bytes;
    })

pub entries_were : (n : ℕ) (string : List ℕ) (found : EntriesRead) → Bytes string → read_entries n string ≡ accepted found
    → string ≡ entries_string found.entries ++ found.rest
unfolding entries_string
entries_were zero string found bytes e = rw (none_left string found e)
entries_were (suc n) string found bytes e =
    let f = entries_first n string found e in
    let first = entry_was string f.first bytes f.first_is in
    let others = entries_were n f.first.rest f.others first.rest_bytes f.others_are in
    rw f.both
    (first.string_is ∙ rw others (sym (append_assoc (entry_string f.first.entry) (entries_string f.others.entries) f.others.rest)))

-- a volume that was read
pub record VolumeWas (string : List ℕ) (entries : List Entry) : Type 0 where
  pub string_is : string ≡ volume_string entries
  pub count_in_lem : in_range count_range (length entries) ≡ true
  pub in_range_lem : entries_in_range entries ≡ true

pub volume_was : (string : List ℕ) (entries : List Entry) → Bytes string → entries_in string ≡ accepted entries → VolumeWas string entries
unfolding volume_string
volume_was string entries bytes e =
    after_line (read_value count_range string) _ (sym (volume_lines string) ∙ e) (λ n q _. no_refusal q) (λ count p q.
    let c = value_was count_range string count bytes p in
    let f = whole_found (read_entries count.value count.rest) entries q in
    let w = entries_were count.value count.rest f.0 c.rest_bytes f.1 in
    let n : length entries ≡ count.value = ap length (sym f.2) ∙ entries_count count.value count.rest f.0 f.1 in
    let rest : count.rest ≡ entries_string entries = w ∙ rw (f.2, f.3, append-nil) in
    let r = volume_in_range string entries e in
    record { string_is = c.string_is ∙ rw (rest, n); count_in_lem = r.count_in_lem; in_range_lem = r.in_range_lem })

-- ---- the calls undo each other

pub reads_back : (list lent : List ℕ) (w : VolumeWritten) → write_volume list lent ≡ accepted w → (other : List ℕ) → length list ≤ length other
    → read_volume (take w.length w.lent) other ≡ accepted (record { count = length list / 4; list = put_first list other })
reads_back list lent w e other l =
    let s = write_shows list lent w e in
    let string = volume_string (entries_of list) in
    let n : length list ≡ 4 * (length list / 4) = omega (arith, s.whole) in
    let count : length (entries_of list) ≡ length list / 4 = entries_length_lem (length list / 4) list n in
    let numbers : numbers_of (entries_of list) ≡ list = numbers_entries (length list / 4) list n in
    let given : take w.length w.lent ≡ string = rw s.written_is (take_at string (drop (length string) lent) (length string) refl) in
    let read = read_accepts string other (entries_of list) (volume_back (entries_of list) s.count_in_lem s.in_range_lem) (omega arith) in
    rw given (rw (count, numbers) at read)

pub writes_back : (string list : List ℕ) (r : VolumeRead) → Bytes string → read_volume string list ≡ accepted r
    → (lent : List ℕ) → length string ≤ length lent
    → write_volume (take (4 * r.count) r.list) lent ≡ accepted (record { length = length string; lent = put_first string lent })
writes_back string list r bytes e lent l =
    let s = read_shows string list r e in
    let v = volume_was string s.entries bytes s.entries_are in
    let numbers = numbers_of s.entries in
    let long : length numbers ≡ 4 * length s.entries = numbers_length s.entries in
    let given : take (4 * r.count) r.list ≡ numbers =
    ap (λ (x : VolumeRead). take (4 * x.count) x.list) s.read_is ∙ take_at numbers (drop (length numbers) list) (4 * length s.entries) long in
    let back : entries_of numbers ≡ s.entries = entries_numbers s.entries in
    let w = write_accepts numbers lent (omega arith) (rw back v.count_in_lem) (rw back v.in_range_lem) (rw (back, ← v.string_is) l) in
    rw given (rw (back, ← v.string_is) at w)
