-- What the loop over a volume's entries keeps, and the answer that it leads to. Assumes nothing.
use mathlib.Core.Path.{◌≡◌, sym, ◌∙◌}
use mathlib.Core.List.{List}
use Prim.Native.Nat.{ℕ, ◌+◌, ◌-◌, ◌/◌, ◌<◌, ◌≤◌}
use native.Mathlib.Nat.{add-zero, zero-add, add_assoc}
use lib.ListN.{length, drop}
use Rattle.std.specs.Prelude.{Ok, Err}
use Rattle.std.specs.Prelude as Std
use Rattle.laws.specs.Result.{Result, refused, accepted, ◌>>=◌, ◌>>◌, refuse◌unless◌}
use Rattle.refusal.specs.declared.Refusal.{Refusal}
use Rattle.refusal.specs.Told.{told}
use Rattle.volume.specs.declared.Entry.{Entry}
use Rattle.volume.specs.Volume.{count_range}
use Rattle.volume.specs.Calls.{EntryRead, read_value, read_entry, is_empty}
use Rattle.volume.specs.Found.{entries_only}
use Rattle.volume.proofs.EntryByEntry.{Comes, after, only_same, only_starts, only_turns, only_refused, only_ends, at_end, before_end}
use Rattle.volume.proofs.Volumes.{volume_value}
use Rattle.duty.specs.Duty.{exact_duty, entry_duty, entries_duty}
use Rattle.duty.specs.Calls.{volume_duty, volume_duty_call, duty_answer, duty_given}

-- the duty so far and that of the entries that are left
abbrev pub with_so_far : (rates : List ℕ) (cents : ℕ) → List Entry → ℕ
with_so_far rates cents entries = cents + entries_duty rates entries

-- the duty of n entries with nothing after them, once k of them have been read: `cents` is their duty, and `rest` follows them
module _ (rates : List ℕ) (n : ℕ) (whole : List ℕ) where
  abbrev pub Summing : ℕ → List ℕ → (cents : ℕ) → Type 0
  Summing k rest cents = Comes (entries_duty rates) n whole k rest (with_so_far rates cents)

  pub sum_starts : Summing 0 whole 0
  sum_starts =
      only_starts (entries_duty rates) n whole
      ∙ only_same (entries_duty rates) (with_so_far rates 0) (n - 0) whole (λ entries. sym (zero-add (entries_duty rates entries)))

  module _ (k : ℕ) (rest : List ℕ) (cents : ℕ) (come : Summing k rest cents) where
    pub sum_turns : {first : EntryRead} {exact : ℕ} → k < n → read_entry rest ≡ accepted first → exact ≡ exact_duty rates first.entry
        → Summing (k + 1) first.rest (cents + exact / 10000)
    unfolding entry_duty entries_duty
    sum_turns {first} {exact} l e d =
        only_turns (entries_duty rates) n whole k rest (with_so_far rates cents) come l e
        ∙ only_same (after (with_so_far rates cents) first.entry) (with_so_far rates (cents + exact / 10000)) (n - (k + 1)) first.rest
        (λ entries. rw d (sym (add_assoc cents (entry_duty rates first.entry) (entries_duty rates entries))))

    pub sum_refused : {m : ℕ} → k < n → read_entry rest ≡ refused m → entries_only (entries_duty rates) n whole ≡ refused m
    sum_refused = only_refused (entries_duty rates) n whole k rest (with_so_far rates cents) come

    pub sum_ends : n ≤ k → entries_only (entries_duty rates) n whole ≡ ((refuse 16 unless is_empty rest) >> accepted cents)
    unfolding entries_duty
    sum_ends l = rw add-zero at (only_ends (entries_duty rates) n whole k rest (with_so_far rates cents) come l)

-- ---- the answer

module _ (rates string : List ℕ) where
  volume_lines : volume_duty rates string ≡ (read_value count_range string >>= λ count. entries_only (entries_duty rates) count.value count.rest)
  unfolding volume_duty
  volume_lines = volume_value (entries_duty rates) string

  pub no_count : {m : ℕ} → refused m ≡ read_value count_range string → volume_duty rates string ≡ refused m
  no_count e = volume_lines ∙ rw (sym e)

  module _ (n first : ℕ) (number : accepted (record { value = n; rest = drop first string }) ≡ read_value count_range string) where
    pub from_entries : {r : Result ℕ} → entries_only (entries_duty rates) n (drop first string) ≡ r → volume_duty rates string ≡ r
    from_entries e = volume_lines ∙ rw (sym number, e)

    module _ (k at cents : ℕ) (come : Summing rates n (drop first string) k (drop at string) cents) (l : n ≤ k) where
      pub bytes_after : at < length string → volume_duty rates string ≡ refused 16
      bytes_after h = from_entries (sum_ends rates n (drop first string) k (drop at string) cents come l ∙ rw (before_end string at h))

      pub nothing_after : at ≡ length string → volume_duty rates string ≡ accepted cents
      nothing_after h = from_entries (sum_ends rates n (drop first string) k (drop at string) cents come l ∙ rw (at_end string at h))

-- the answer for C
pub given_call : (rates string : List ℕ) (answer : Std.Result ℕ Refusal) → told answer ≡ volume_duty rates string
    → duty_given (duty_answer answer) ≡ volume_duty_call rates string
unfolding volume_duty_call
given_call rates string (Ok cents) e = rw (sym e)
given_call rates string (Err refusal) e = rw (sym e)
