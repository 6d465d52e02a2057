-- Where entries begin: the last entries of a recording, and the entries after the first k. Assumes nothing.
use mathlib.Core.Path.{◌≡◌, refl, sym, ap, ◌∙◌}
use mathlib.Core.List.{List, [], ◌∷◌, ◌++◌, append_assoc, append-nil}
use Prim.Native.Nat.{ℕ, zero, suc, ◌+◌, ◌-◌, ◌≤◌}
use native.Mathlib.Omega.{arith}
use lib.ListN.{length, take, drop, length-append, length-drop}
use Rattle.laws.specs.Result.{accepted}
use Rattle.laws.proofs.Lists.{drop_below}
use Rattle.varint.specs.Number.{number}
use Rattle.varint.specs.declared.Found.{Found}
use Rattle.volume.specs.declared.Entry.{Entry}
use Rattle.volume.specs.Volume.{entry_string, entries_string, volume_string}
use Rattle.volume.specs.Calls.{EntryRead, EntriesRead}
use Rattle.volume.specs.Found.{EntryReadAgain}
use Rattle.volume.proofs.EntryByEntry.{entries_first, none_left}
use Rattle.volume.proofs.Undo.{Bytes, entries_were}
use Rattle.comparison.specs.Comparison.{entry_begins, bytes_left}
use Rattle.comparison.specs.Found.{Last, last_entries}

-- the last entries of a string begin where they have as many bytes as are left
pub last_begin : (string : List ℕ) (at n : ℕ) (entries : List Entry) → Bytes string → at ≤ length string → Last string at n entries
    → at ≡ last_entries (length string) entries
last_begin string at n entries bytes l last =
    let w = entries_were n (drop at string) _ (drop_below at string bytes) last ∙ append-nil (entries_string entries) in
    omega (arith, ap length (sym w), length-drop at string)

pub last_none : (string : List ℕ) (at : ℕ) (entries : List Entry) → Last string at 0 entries → entries ≡ []
last_none string at entries last = ap (λ (x : EntriesRead). x.entries) (none_left (drop at string) _ last)

-- the first of the last entries, which was read again, and those after it
pub record First (string : List ℕ) (next n : ℕ) (e : Entry) (entries : List Entry) : Type 0 where
  pub others : List Entry
  pub entries_are : entries ≡ e ∷ others
  pub others_last : Last string next n others

pub last_first : (string : List ℕ) (at n : ℕ) (r : Found Entry) (entries : List Entry) → EntryReadAgain string at r → Last string at (suc n) entries
    → First string r.next n r.value entries
last_first string at n r entries again last =
    let f = entries_first n (drop at string) _ last in
    let first = again f.first f.first_is in
    let rest : f.others.rest ≡ [] = ap (λ (x : EntriesRead). x.rest) (sym f.both) in
    record {
      others = f.others.entries;
      entries_are = ap (λ (x : EntriesRead). x.entries) f.both ∙ ap (λ (x : EntryRead). x.entry ∷ f.others.entries) first;
      others_last = rw first at f.others_are ∙ ap accepted (ap (λ (s : List ℕ). record { entries = f.others.entries; rest = s }) rest);
    }

-- the bytes of the first k entries, and of those after them
pub strings_split : (k : ℕ) (entries : List Entry) → entries_string (take k entries) ++ entries_string (drop k entries) ≡ entries_string entries
unfolding entries_string
strings_split zero entries = refl
strings_split (suc k) [] = refl
strings_split (suc k) (e ∷ entries) =
    append_assoc (entry_string e) (entries_string (take k entries)) (entries_string (drop k entries))
    ∙ ap (λ (s : List ℕ). entry_string e ++ s) (strings_split k entries)

-- the bytes before an entry and from it on are those of the volume
pub split_length : (k : ℕ) (entries : List Entry) → entry_begins entries k + bytes_left entries k ≡ length (volume_string entries)
unfolding volume_string
split_length k entries =
    omega (
      arith,
      length-append (number (length entries)) (entries_string entries),
      ap length (strings_split k entries),
      length-append (entries_string (take k entries)) (entries_string (drop k entries)),
    )

-- an entry begins where the last entries do, and so many bytes are left there
pub begins_last : (k : ℕ) (entries : List Entry) → entry_begins entries k ≡ last_entries (length (volume_string entries)) (drop k entries)
begins_last k entries = omega (arith, split_length k entries)

pub left_last : (k : ℕ) (entries : List Entry)
    → bytes_left entries k ≡ length (volume_string entries) - last_entries (length (volume_string entries)) (drop k entries)
left_last k entries = omega (arith, split_length k entries)
