-- Reading entries one after the other. Assumes nothing.
use mathlib.Core.Path.{◌≡◌, refl, sym, ap, ◌∙◌}
use mathlib.Core.Bool.{true, false}
use mathlib.Core.List.{List, [], ◌∷◌}
use Prim.Native.Nat.{ℕ, zero, suc, ◌+◌, ◌-◌, ◌<◌, ◌≤◌}
use lib.ListN.{length, drop}
use lib.Seq.{drop-cons, drop-length}
use Rattle.laws.specs.Result.{Result, refused, accepted, ◌>>=◌, ◌>>◌, refuse◌unless◌}
use Rattle.laws.proofs.Results.{block_in_block, same_lines, after_line, no_refusal, accepted_one}
use Rattle.laws.proofs.Turns as Turns
use Rattle.volume.specs.declared.Entry.{Entry}
use Rattle.volume.specs.Calls.{EntryRead, EntriesRead, read_entry, read_entries, is_empty}
use Rattle.volume.specs.Found.{entries_only}

-- the first entry before others
abbrev pub joined : EntryRead → EntriesRead → EntriesRead
joined first others = record { entries = first.entry ∷ others.entries; rest = others.rest }

pub entries_zero : (string : List ℕ) → read_entries 0 string ≡ accepted (record { entries = []; rest = string })
unfolding read_entries
entries_zero string = refl

pub entries_suc : (n : ℕ) (string : List ℕ)
    → read_entries (suc n) string ≡ (read_entry string >>= λ first. read_entries n first.rest >>= λ others. accepted (joined first others))
unfolding read_entries
entries_suc n string = refl

-- ---- n entries and nothing after them

-- the value of the first entry and the others, as a value of the others
abbrev pub after : {A : Type 0} → (List Entry → A) → Entry → List Entry → A
after value e entries = value (e ∷ entries)

-- what a loop over the entries has come to: the bytes that are left, and the value of the entries that are left
record Left (A : Type 0) : Type 0 where
  rest : List ℕ
  value : List Entry → A

module _ {A : Type 0} where
  pub only_zero : (value : List Entry → A) (string : List ℕ) → entries_only value 0 string ≡ ((refuse 16 unless is_empty string) >> accepted (value []))
  unfolding entries_only
  only_zero value string = rw (entries_zero string)

  pub only_suc : (value : List Entry → A) (n : ℕ) (string : List ℕ)
      → entries_only value (suc n) string ≡ (read_entry string >>= λ first. entries_only (after value first.entry) n first.rest)
  unfolding entries_only
  only_suc value n string =
      rw (entries_suc n string)
      (block_in_block (read_entry string) _ _ ∙ same_lines (read_entry string) _ _ (λ first. block_in_block (read_entries n first.rest) _ _))

  pub only_same : (value other : List Entry → A) (n : ℕ) (string : List ℕ) → ((entries : List Entry) → value entries ≡ other entries)
      → entries_only value n string ≡ entries_only other n string
  unfolding entries_only
  only_same value other n string h = same_lines (read_entries n string) _ _ (λ read. rw (h read.entries))

  abbrev from : List ℕ → (List Entry → A) → Left A
  from rest value = record { rest = rest; value = value }

  abbrev turn : Left A → Result (Left A)
  turn s = read_entry s.rest >>= λ first. accepted (from first.rest (after s.value first.entry))

  abbrev all : ℕ → Left A → Result A
  all n s = entries_only s.value n s.rest

  all_suc : (n : ℕ) (s : Left A) → all (suc n) s ≡ (turn s >>= all n)
  all_suc n s = only_suc s.value n s.rest ∙ sym (block_in_block (read_entry s.rest) _ (all n))

  -- from where the loop has come it finds, with `left` for the value of the entries that are left, what it finds from the start
  module _ (value : List Entry → A) (n : ℕ) (whole : List ℕ) where
    abbrev pub Comes : ℕ → List ℕ → (left : List Entry → A) → Type 0
    Comes k rest left = entries_only value n whole ≡ entries_only left (n - k) rest

    pub only_starts : Comes 0 whole value
    only_starts = Turns.result_starts turn all all_suc n (from whole value)

    module _ (k : ℕ) (rest : List ℕ) (left : List Entry → A) (come : Comes k rest left) where
      pub only_turns : {first : EntryRead} → k < n → read_entry rest ≡ accepted first → Comes (k + 1) first.rest (after left first.entry)
      only_turns l r = Turns.result_turns turn all all_suc n (from whole value) k (from rest left) come l (rw r)

      pub only_refused : {m : ℕ} → k < n → read_entry rest ≡ refused m → entries_only value n whole ≡ refused m
      only_refused l r = Turns.result_refused turn all all_suc n (from whole value) k (from rest left) come l (rw r)

      pub only_ends : n ≤ k → entries_only value n whole ≡ ((refuse 16 unless is_empty rest) >> accepted (left []))
      only_ends l = Turns.result_ends turn all all_suc n (from whole value) k (from rest left) come l ∙ only_zero left rest

-- whether a place is at the string's end
pub at_end : (string : List ℕ) (at : ℕ) → at ≡ length string → is_empty (drop at string) ≡ true
at_end string at e = rw (e, drop-length string)

pub before_end : (string : List ℕ) (at : ℕ) → at < length string → is_empty (drop at string) ≡ false
before_end string at l = rw (drop-cons string at 0 l)

-- ---- entries that are accepted

-- the first of m + 1 entries, and the others
pub record First (m : ℕ) (string : List ℕ) (found : EntriesRead) : Type 0 where
  pub first : EntryRead
  pub others : EntriesRead
  pub first_is : read_entry string ≡ accepted first
  pub others_are : read_entries m first.rest ≡ accepted others
  pub both : found ≡ joined first others

pub entries_first : (m : ℕ) (string : List ℕ) (found : EntriesRead) → read_entries (suc m) string ≡ accepted found → First m string found
entries_first m string found e =
    after_line (read_entry string) _ (sym (entries_suc m string) ∙ e) (λ n q _. no_refusal q) (λ first p q.
    after_line (read_entries m first.rest) _ q (λ n r _. no_refusal r) (λ others r t.
    record { first = first; others = others; first_is = p; others_are = r; both = accepted_one refl (sym t) }))

pub none_left : (string : List ℕ) (found : EntriesRead) → read_entries 0 string ≡ accepted found → found ≡ record { entries = []; rest = string }
none_left string found e = accepted_one e (entries_zero string)

pub entries_count : (n : ℕ) (string : List ℕ) (found : EntriesRead) → read_entries n string ≡ accepted found → length found.entries ≡ n
entries_count zero string found e = rw (none_left string found e)
entries_count (suc n) string found e =
    let f = entries_first n string found e in
    rw f.both (ap suc (entries_count n f.first.rest f.others f.others_are))
