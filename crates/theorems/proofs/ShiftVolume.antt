-- The propositions on volumes, from the laws of the crate `volume` and from the definition of the enciphering. Assumes nothing.
use mathlib.Core.Path.{◌≡◌, refl, sym, ap, ◌∙◌}
use mathlib.Core.Bool.{Bool, true, false, ◌&&◌, false≢true}
use mathlib.Core.List.{List, [], ◌∷◌}
use mathlib.Core.Logic.{◌↔◌}
use Prim.Native.Nat.{ℕ, ◌*◌, ◌/◌, ◌%◌, ◌≤◌, ◌<◌}
use native.Mathlib.Omega.{arith}
use borrow.Author.Tests.{eq-eqb, ne_eqb, eqb-true, lt-leb, leb-false}
use lib.Dec.{eqb, leb}
use lib.ListN.{length, drop, length-append}
use lib.Seq.{drop-append_seam}
use Rattle.laws.specs.Lent.{put_first}
use Rattle.laws.specs.Result.{Result, refused, accepted, Outcome, ◌>>=◌, ◌>>◌, refuse◌unless◌}
use Rattle.laws.proofs.Same.{and_left, and_right, not_true_is_false}
use Rattle.laws.proofs.Results.{no_refusal}
use Rattle.word.specs.Bytes.{AllBytes}
use Rattle.varint.specs.Number.{number}
use Rattle.varint.proofs.Groups.{number_length, number_some}
use Rattle.volume.specs.declared.Entry.{Entry}
use Rattle.volume.specs.Volume.{in_range, count_range, minutes_range, litres_range, ratio_range, product_range, entry_in_range, entries_in_range, entry_string, entries_string, volume_string, numbers_of, entries_of}
use Rattle.volume.specs.Calls.{entries_in, VolumeRead, read_volume, VolumeWritten, write_volume}
use Rattle.volume.proofs.Entries.{numbers_length, entries_numbers, numbers_entries}
use Rattle.volume.proofs.Values.{range_holds, range_most, range_least}
use Rattle.volume.proofs.Measuring.{entry_length}
use Rattle.volume.proofs.Ranges.{minutes_in, litres_in, ratio_in, product_in}
use Rattle.volume.proofs.Undo.{volume_back, volume_was, reads_back, writes_back}
use Rattle.volume.proofs.Shows.{read_shows, read_accepts, write_lines, write_shows, write_accepts}
use Rattle.engine.specs.Calls.{Engine, Ciphered, encipher_volume_call, encipher_volume}
use Rattle.theorems.specs.Account.{call_cipher, call_encipher_volume, called, Account, feed}
use Rattle.theorems.specs.Farthest.{reached_by}
use Rattle.theorems.specs.ShiftVolume.{InRange, AllInRange, Volume, ShiftVolume}
use Rattle.theorems.proofs.Within.{first, after, volume_within, within_not}
use Rattle.theorems.proofs.Encipher.{volume_refused, volume_ciphered, call_ciphered}

-- ── ranges as inequalities ──

entry_in : (e : Entry) → entry_in_range e ≡ true → InRange e
entry_in e h = record {
  minutes = range_most minutes_range e.minutes (minutes_in e h);
  litres = range_most litres_range e.litres (litres_in e h);
  ratio = range_most ratio_range e.ratio (ratio_in e h);
  product = (range_least product_range e.product (product_in e h), range_most product_range e.product (product_in e h));
}

in_entry : (e : Entry) → InRange e → entry_in_range e ≡ true
unfolding entry_in_range
in_entry e r =
    rw (
      range_holds 0 1440 e.minutes (omega arith) r.minutes,
      range_holds 0 100000 e.litres (omega arith) r.litres,
      range_holds 0 10000 e.ratio (omega arith) r.ratio,
      range_holds 1 8 e.product r.product.0 r.product.1,
    )

pub entries_all : (entries : List Entry) → entries_in_range entries ≡ true → AllInRange entries
unfolding entries_in_range
entries_all [] h = tt
entries_all (e ∷ entries) h =
    (entry_in e (and_left (entry_in_range e) (entries_in_range entries) h), entries_all entries (and_right (entry_in_range e) (entries_in_range entries) h))

pub all_entries : (entries : List Entry) → AllInRange entries → entries_in_range entries ≡ true
unfolding entries_in_range
all_entries [] h = refl
all_entries (e ∷ entries) h = rw (in_entry e h.0, all_entries entries h.1)

-- ── reading and writing ──

read_iff : (string : List ℕ) (entries : List Entry) → AllBytes string → (entries_in string ≡ accepted entries) ↔ Volume string entries
read_iff string entries bytes = (
  (λ e. let v = volume_was string entries bytes e in
      record { count = range_most count_range (length entries) v.count_in_lem; in_range_lem = entries_all entries v.in_range_lem; string_is = v.string_is }),
  (λ v. rw v.string_is (volume_back entries (range_holds 0 2000 (length entries) (omega arith) v.count) (all_entries entries v.in_range_lem))),
)

-- the last line of reading, from the result of the lines before it
module _ (list : List ℕ) where
  abbrev last : Result (List Entry) → Result VolumeRead
  last r = do
    entries ← r
    refuse 8 unless leb (4 * length entries) (length list)
    accepted (record { count = length entries; list = put_first (numbers_of entries) list })

  room_8 : (b : Bool) (x : VolumeRead) → ((refuse 8 unless b) >> accepted x) ≡ refused 8 → b ≡ false
  room_8 true x e = no_refusal e
  room_8 false x e = refl

  room_other : (b : Bool) (x : VolumeRead) (n : ℕ) → ((refuse 8 unless b) >> accepted x) ≡ refused n → n ≡ 8
  room_other true x n e = no_refusal e
  room_other false x n e = cc

  last_8 : (r : Result (List Entry)) → (r ≡ refused 8 → ⊥) → last r ≡ refused 8
      → (entries : List Entry) × (r ≡ accepted entries) × (length list < 4 * length entries)
  last_8 (refused n) h e = absurd (h cc)
  last_8 (accepted entries) h e = (entries, refl, leb-false (4 * length entries) (length list) (room_8 (leb (4 * length entries) (length list)) _ e))

  last_refused : (r : Result (List Entry)) (n : ℕ) → (n ≡ 8 → ⊥) → last r ≡ refused n → r ≡ refused n
  last_refused (refused m) n h e = cc
  last_refused (accepted entries) n h e = absurd (h (room_other (leb (4 * length entries) (length list)) _ n e))

read_8 : (string list : List ℕ)
    → (read_volume string list ≡ refused 8) ↔ ((entries : List Entry) × (entries_in string ≡ accepted entries) × (length list < 4 * length entries))
unfolding read_volume
read_8 string list = (
  last_8 list (entries_in string) (within_not 8 (16 ∷ 14 ∷ 15 ∷ []) (entries_in string) (volume_within first (after first) (after (after first)) string) refl),
  (λ t. rw (t.1, lt-leb (4 * length t.0) (length list) t.2)),
)

read_refused : (string list : List ℕ) (n : ℕ) → (n ≡ 8 → ⊥) → (read_volume string list ≡ refused n) ↔ (entries_in string ≡ refused n)
unfolding read_volume
read_refused string list n h = (last_refused list (entries_in string) n h, (λ e. rw e))

write_iff : (list lent : List ℕ) (w : VolumeWritten)
    → (write_volume list lent ≡ accepted w)
    ↔ ((entries : List Entry) × (list ≡ numbers_of entries) × Volume (volume_string entries) entries
    × (length (volume_string entries) ≤ length lent)
    × (w ≡ record { length = length (volume_string entries); lent = put_first (volume_string entries) lent }))
write_iff list lent w = (
  (λ e.
      let s = write_shows list lent w e in
      let n : length list ≡ 4 * (length list / 4) = omega (arith, s.whole) in (
        entries_of list,
        sym (numbers_entries (length list / 4) list n),
        record { count = range_most count_range (length (entries_of list)) s.count_in_lem; in_range_lem = entries_all (entries_of list) s.in_range_lem; string_is = refl },
        s.room,
        s.written_is,
      )),
  (λ t.
      let entries = t.0 in
      let back : entries_of list ≡ entries = ap entries_of t.1 ∙ entries_numbers entries in
      let count : in_range count_range (length (entries_of list)) ≡ true =
      rw back (range_holds 0 2000 (length entries) (omega arith) t.2.count) in
      let numbers = ap length t.1 ∙ numbers_length entries in
      let w = write_accepts list lent (omega arith) count (rw back (all_entries entries t.2.in_range_lem)) (rw back t.3) in
      rw back at w ∙ ap accepted (sym t.4)),
)

-- the lines of writing one after another: b, c, d and e say whether each holds
module _ (w : VolumeWritten) where
  abbrev lines : (b c d e : Bool) → Result VolumeWritten
  lines b c d e = (refuse 16 unless b) >> ((refuse 15 unless c) >> ((refuse 15 unless d) >> ((refuse 8 unless e) >> accepted w)))

  lines_16 : (b c d e : Bool) → lines b c d e ≡ refused 16 → b ≡ false
  lines_16 false c d e q = refl
  lines_16 true false d e q = let z : ◌≡◌ {A = ℕ} 15 16 = cc in absurd (omega arith)
  lines_16 true true false e q = let z : ◌≡◌ {A = ℕ} 15 16 = cc in absurd (omega arith)
  lines_16 true true true false q = let z : ◌≡◌ {A = ℕ} 8 16 = cc in absurd (omega arith)
  lines_16 true true true true q = no_refusal q

  lines_15 : (b c d e : Bool) → lines b c d e ≡ refused 15 → (b ≡ true) × (c && d ≡ false)
  lines_15 false c d e q = let z : ◌≡◌ {A = ℕ} 16 15 = cc in absurd (omega arith)
  lines_15 true false d e q = (refl, refl)
  lines_15 true true false e q = (refl, refl)
  lines_15 true true true false q = let z : ◌≡◌ {A = ℕ} 8 15 = cc in absurd (omega arith)
  lines_15 true true true true q = no_refusal q

  lines_8 : (b c d e : Bool) → lines b c d e ≡ refused 8 → (b ≡ true) × (c ≡ true) × (d ≡ true) × (e ≡ false)
  lines_8 false c d e q = let z : ◌≡◌ {A = ℕ} 16 8 = cc in absurd (omega arith)
  lines_8 true false d e q = let z : ◌≡◌ {A = ℕ} 15 8 = cc in absurd (omega arith)
  lines_8 true true false e q = let z : ◌≡◌ {A = ℕ} 15 8 = cc in absurd (omega arith)
  lines_8 true true true false q = (refl, refl, refl, refl)
  lines_8 true true true true q = no_refusal q

  give_15 : (c d e : Bool) → c && d ≡ false → lines true c d e ≡ refused 15
  give_15 false d e q = refl
  give_15 true false e q = refl
  give_15 true true e q = absurd (false≢true (sym q))

module _ (list lent : List ℕ) where
  abbrev whole : Bool
  whole = eqb (length list % 4) 0

  abbrev counted : Bool
  counted = in_range count_range (length (entries_of list))

  abbrev ranged : Bool
  ranged = entries_in_range (entries_of list)

  abbrev fitting : Bool
  fitting = leb (length (volume_string (entries_of list))) (length lent)

  abbrev given : VolumeWritten
  given = record { length = length (volume_string (entries_of list)); lent = put_first (volume_string (entries_of list)) lent }

  -- the entries of a list that is whole entries
  whole_list : length list % 4 ≡ 0 → list ≡ numbers_of (entries_of list)
  whole_list h = let n : length list ≡ 4 * (length list / 4) = omega arith in sym (numbers_entries (length list / 4) list n)

  of_entries : (entries : List Entry) → list ≡ numbers_of entries → (length list % 4 ≡ 0) × (entries_of list ≡ entries)
  of_entries entries e =
      let n = ap length e ∙ numbers_length entries in (omega arith, ap entries_of e ∙ entries_numbers entries)

  write_16 : (write_volume list lent ≡ refused 16) ↔ (length list % 4 ≡ 0 → ⊥)
  write_16 = (
    (λ q h. false≢true (sym (lines_16 given whole counted ranged fitting (sym (write_lines list lent) ∙ q)) ∙ eq-eqb (length list % 4) 0 h)),
    (λ h. write_lines list lent ∙ rw (ne_eqb (length list % 4) 0 h)),
  )

  write_15 : (write_volume list lent ≡ refused 15)
      ↔ ((entries : List Entry) × (list ≡ numbers_of entries) × ((length entries ≤ 2000) × AllInRange entries → ⊥))
  write_15 = (
    (λ q.
        let h = lines_15 given whole counted ranged fitting (sym (write_lines list lent) ∙ q) in (
          entries_of list,
          whole_list (eqb-true (length list % 4) 0 h.0),
          (λ r. false≢true (sym h.1 ∙ rw (range_holds 0 2000 (length (entries_of list)) (omega arith) r.0, all_entries (entries_of list) r.1))),
        )),
    (λ t.
        let o = of_entries t.0 t.1 in
        let both : counted && ranged ≡ true → (length (entries_of list) ≤ 2000) × AllInRange (entries_of list) = λ b.
        (range_most count_range (length (entries_of list)) (and_left counted ranged b), entries_all (entries_of list) (and_right counted ranged b)) in
        let not_both : counted && ranged ≡ false = not_true_is_false (counted && ranged) (λ b. t.2 (rw o.1 at (both b))) in
        write_lines list lent ∙ rw (eq-eqb (length list % 4) 0 o.0) (give_15 given counted ranged fitting not_both)),
  )

  write_8 : (write_volume list lent ≡ refused 8)
      ↔ ((entries : List Entry) × (list ≡ numbers_of entries) × Volume (volume_string entries) entries × (length lent < length (volume_string entries)))
  write_8 = (
    (λ q.
        let h = lines_8 given whole counted ranged fitting (sym (write_lines list lent) ∙ q) in (
          entries_of list,
          whole_list (eqb-true (length list % 4) 0 h.0),
          record { count = range_most count_range (length (entries_of list)) h.1; in_range_lem = entries_all (entries_of list) h.2; string_is = refl },
          leb-false (length (volume_string (entries_of list))) (length lent) h.3,
        )),
    (λ t.
        let entries = t.0 in
        let o = of_entries entries t.1 in
        write_lines list lent
        ∙ rw (
          eq-eqb (length list % 4) 0 o.0,
          o.1,
          range_holds 0 2000 (length entries) (omega arith) t.2.count,
          all_entries entries t.2.in_range_lem,
          lt-leb (length (volume_string entries)) (length lent) t.3,
        )),
  )

read_beyond : (string list : List ℕ) (r : VolumeRead) → read_volume string list ≡ accepted r → drop (4 * r.count) r.list ≡ drop (4 * r.count) list
read_beyond string list r e =
    let s = read_shows string list r e in
    let n = numbers_length s.entries in
    ap (λ (x : VolumeRead). drop (4 * x.count) x.list) s.read_is
    ∙ ap (λ (k : ℕ). drop k (put_first (numbers_of s.entries) list)) (sym n)
    ∙ drop-append_seam (numbers_of s.entries) _
    ∙ ap (λ (k : ℕ). drop k list) n
    ∙ ap (λ (x : VolumeRead). drop (4 * x.count) list) (sym s.read_is)

write_beyond : (list lent : List ℕ) (w : VolumeWritten) → write_volume list lent ≡ accepted w → drop w.length w.lent ≡ drop w.length lent
write_beyond list lent w e =
    let s = write_shows list lent w e in
    let string = volume_string (entries_of list) in
    ap (λ (x : VolumeWritten). drop x.length x.lent) s.written_is
    ∙ drop-append_seam string _
    ∙ ap (λ (x : VolumeWritten). drop x.length lent) (sym s.written_is)

-- ── the longest volume ──

-- an entry has at most 2, 3, 2 and 1 bytes, and the count 2
entry_longest : (e : Entry) → InRange e → length (entry_string e) ≤ 8
entry_longest e r =
    let s = entry_length e in
    let minutes = number_length 2 e.minutes (omega arith) (omega arith) (omega (arith, r.minutes)) in
    let litres = number_length 3 e.litres (omega arith) (omega arith) (omega (arith, r.litres)) in
    let ratio = number_length 2 e.ratio (omega arith) (omega arith) (omega (arith, r.ratio)) in
    let product = number_length 1 e.product (omega arith) (omega arith) (omega (arith, r.product.1)) in
    omega arith

entries_longest : (entries : List Entry) → AllInRange entries → length (entries_string entries) ≤ 8 * length entries
unfolding entries_string
entries_longest [] h = omega arith
entries_longest (e ∷ entries) h =
    omega (arith, length-append (entry_string e) (entries_string entries), entry_longest e h.0, entries_longest entries h.1)

pub volume_length : (entries : List Entry) → length entries ≤ 2000 → AllInRange entries
    → (1 ≤ length (volume_string entries)) × (length (volume_string entries) ≤ 16002)
unfolding volume_string
volume_length entries l h =
    let s = length-append (number (length entries)) (entries_string entries) in
    let n = number_length 2 (length entries) (omega arith) (omega arith) (omega arith) in
    (omega (arith, number_some (length entries)), omega (arith, entries_longest entries h))

write_length : (list lent : List ℕ) (w : VolumeWritten) → write_volume list lent ≡ accepted w → (1 ≤ w.length) × (w.length ≤ 16002)
write_length list lent w e =
    let s = write_shows list lent w e in
    let b = volume_length (entries_of list) (range_most count_range (length (entries_of list)) s.count_in_lem) (entries_all (entries_of list) s.in_range_lem) in
    rw s.written_is b

-- ── in a list ──

module _ (e : Engine) (size : ℕ) (a : Account) (reached volume : List ℕ) where
  call_ciphers : (entries : List Entry) → entries_in volume ≡ accepted entries
      → (called e (call_encipher_volume volume) ≡ called e (call_cipher volume))
      × (feed size a (call_encipher_volume volume) ≡ feed size a (call_cipher volume))
      × (reached_by size a reached (call_encipher_volume volume) ≡ reached_by size a reached (call_cipher volume))
  unfolding called feed reached_by
  call_ciphers entries q =
      (ap (λ (x : Outcome Ciphered). x.value.engine) (call_ciphered e.head e.area volume entries q), rw (feed, q), rw (reached_by, q))

  call_leaves : (n : ℕ) → entries_in volume ≡ refused n
      → (called e (call_encipher_volume volume) ≡ e) × (feed size a (call_encipher_volume volume) ≡ a)
      × (reached_by size a reached (call_encipher_volume volume) ≡ reached)
  unfolding called feed reached_by encipher_volume_call encipher_volume
  call_leaves n q = (rw (called, q), rw (feed, q), rw (reached_by, q))

pub shift_volume : ShiftVolume
shift_volume = record {
  read_iff = read_iff;
  read_gives = read_accepts;
  read_8 = read_8;
  read_refused = read_refused;
  write_iff = write_iff;
  write_16 = write_16;
  write_15 = write_15;
  write_8 = write_8;
  read_after_write = reads_back;
  write_after_read = writes_back;
  read_beyond = read_beyond;
  write_beyond = write_beyond;
  write_length = write_length;
  encipher_refused = volume_refused;
  encipher_ciphers = λ h area volume entries e. (volume_ciphered h area volume entries e, call_ciphered h area volume entries e);
  call_ciphers = call_ciphers;
  call_leaves = call_leaves;
}
