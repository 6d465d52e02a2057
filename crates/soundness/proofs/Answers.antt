-- What follows from the answer that fits a string: no other fits, and what it says of strings that begin alike. Assumes nothing.
use mathlib.Core.Path.{◌≡◌, refl, sym, ap, ◌∙◌}
use mathlib.Core.Bool.{true}
use mathlib.Core.Logic.{◌↔◌, ◌⊎◌, inl, inr, ⊎_elim}
use mathlib.Core.List.{List, [], ◌∷◌, ◌++◌, append-nil, append_assoc}
use Prim.Native.Nat.{ℕ, zero, suc, ◌+◌, ◌-◌, ◌*◌, ◌≤◌, ◌<◌}
use native.Mathlib.Omega.{arith}
use lib.ListN.{length, take, length-append}
use lib.Seq.{length-take-le, take-length, take-append-le, take-append_seam, take-take}
use Rattle.laws.specs.Result.{refused}
use Rattle.laws.proofs.Results.{no_refusal}
use Rattle.laws.proofs.Lists.{below_or_not, cons_below}
use Rattle.word.specs.Bytes.{AllBytes}
use Rattle.varint.specs.Number.{number, read_groups}
use Rattle.varint.proofs.Groups.{number_last}
use Rattle.varint.proofs.Reading.{read_end, read_more}
use Rattle.volume.specs.declared.Entry.{Entry}
use Rattle.volume.specs.Volume.{in_range, count_range, entries_in_range, entries_string, volume_string}
use Rattle.volume.specs.Calls.{read_value, read_entry, entries_in, check_volume}
use Rattle.volume.proofs.Values.{range_holds}
use Rattle.volume.proofs.Undo.{value_back, entries_back, volume_was}
use Rattle.volume.proofs.Shows.{read_shows}
use Rattle.soundness.specs.declared.Soundness.{Soundness}
use Rattle.soundness.specs.declared.Soundness.TheVariants as answer
use Rattle.soundness.specs.Soundness.{IsVolume, Completable, Fits}
use Rattle.soundness.specs.Found.{groups_soundness, entry_soundness, entries_soundness, volume_soundness}
use Rattle.soundness.proofs.Completions.{Checks, Completes, volume_is, checks_volume, shorter, hopeless_fits}
use Rattle.soundness.proofs.InNumber.{groups_end, groups_more}
use Rattle.soundness.proofs.InVolume.{empty_completes, volume_fits}
use Rattle.soundness.proofs.Places.{in_count, in_entries}

-- a string that can be completed, as a record
completes_of : (string : List ℕ) → Completable string → Completes string
completes_of string c = record { more = c.0; bytes = c.1; checks = checks_volume _ c.2 }

-- a volume needs no bytes to complete it
volume_completes : (string : List ℕ) → IsVolume string → Completes string
volume_completes string v = record { more = []; bytes = λ k. omega arith; checks = rw append-nil (checks_volume string v) }

-- a volume completes each of its beginnings, and a string that can be completed has beginnings that can be
pub volume_begins : (string : List ℕ) (n : ℕ) → AllBytes string → IsVolume string → Completable (take n string)
volume_begins string n bytes v = shorter string n bytes (volume_completes string v)

pub begins : (string : List ℕ) (n : ℕ) → AllBytes string → Completable string → Completable (take n string)
begins string n bytes c = shorter string n bytes (completes_of string c)

module _ (string : List ℕ) (bytes : AllBytes string) where
  -- ---- one answer

  shortest : (n m : ℕ) → n < m → Fits string (answer.Hopeless n) → Fits string (answer.Hopeless m) → ⊥
  shortest n m l a b = a.1 (b.2 n l)

  pub same : (a b : Soundness) → Fits string a → Fits string b → a ≡ b
  same answer.Sound answer.Sound p q = refl
  same answer.Sound answer.Cut p q = absurd (q.0 p)
  same answer.Sound (answer.Hopeless n) p q = absurd (q.1 (volume_begins string n bytes p))
  same answer.Cut answer.Sound p q = absurd (p.0 q)
  same answer.Cut answer.Cut p q = refl
  same answer.Cut (answer.Hopeless n) p q = absurd (q.1 (p.1 n q.0))
  same (answer.Hopeless n) answer.Sound p q = absurd (p.1 (volume_begins string n bytes q))
  same (answer.Hopeless n) answer.Cut p q = absurd (p.1 (q.1 n p.0))
  same (answer.Hopeless n) (answer.Hopeless m) p q =
      let e : n ≡ m = ⊎_elim
      (λ (l : n < m). absurd (shortest n m l p q))
      (λ (l : m ≤ n). ⊎_elim (λ (k : m < n). absurd (shortest m n k q p)) (λ (k : n ≤ m). omega arith) (below_or_not m n))
      (below_or_not n m) in
      rw e

  -- ---- cut: the whole string decides

  pub cut_iff : Fits string answer.Cut ↔ ((IsVolume string → ⊥) × Completable string)
  cut_iff = (
    (λ c. (c.0, rw (take-length string) at (c.1 (length string) (omega arith)))),
    (λ c. (c.0, λ n l. begins string n bytes c.1)),
  )

  -- ---- hopeless: so are all strings with that beginning

  pub stays : (n : ℕ) (rest : List ℕ) → Fits string (answer.Hopeless n) → Fits (take n string ++ rest) (answer.Hopeless n)
  stays n rest h =
      let l : length (take n string) ≡ n = length-take-le n string h.0 in
      let whole : take n (take n string ++ rest) ≡ take n string =
      ap (λ (k : ℕ). take k (take n string ++ rest)) (sym l) ∙ take-append_seam (take n string) rest in (
        omega (arith, length-append (take n string) rest),
        (λ c. h.1 (rw whole at c)),
        λ m k.
            let e : take m (take n string ++ rest) ≡ take m string = take-append-le m (take n string) rest (omega arith) ∙ take-take m n string (omega arith) in
            rw e (h.2 m k),
      )

-- ---- bytes after the last entry

-- a volume with bytes after its last entry is refused
volume_alone : (entries : List Entry) (b : ℕ) (more : List ℕ) → in_range count_range (length entries) ≡ true → entries_in_range entries ≡ true
    → Checks (volume_string entries ++ (b ∷ more)) → ⊥
unfolding check_volume entries_in volume_string
volume_alone entries b more c h e =
    no_refusal (sym (
    rw (
      append_assoc (number (length entries)) (entries_string entries) (b ∷ more),
      value_back count_range (omega arith) (length entries) (entries_string entries ++ (b ∷ more)) c,
      entries_back entries (b ∷ more) h,
    ) at e))

pub after_volume : (string : List ℕ) (b : ℕ) (rest : List ℕ) → AllBytes string → IsVolume string
    → Fits (string ++ (b ∷ rest)) (answer.Hopeless (suc (length string)))
after_volume string b rest bytes v =
    let w = volume_was string _ bytes (read_shows string v.0 v.1 v.2).entries_are in
    let e : length (string ++ (b ∷ rest)) - length rest ≡ suc (length string) = omega (arith, length-append string (b ∷ rest)) in
    rw e at (hopeless_fits string rest b bytes (volume_completes string v) (λ more _ q. volume_alone _ b more w.count_in_lem w.in_range_lem (rw w.string_is at q)))

-- ---- the empty string

empty_refused : check_volume [] ≡ refused 16
unfolding check_volume entries_in read_value read_groups
empty_refused = refl

empty_completable : Completable []
empty_completable = let c = empty_completes in (c.more, c.bytes, volume_is _ c.checks)

pub empty_cut : Fits [] answer.Cut
empty_cut = ((λ v. no_refusal (sym (checks_volume [] v) ∙ empty_refused)), λ n l. begins [] n (λ k. omega arith) empty_completable)

-- ---- a single byte begins a volume: it is a count, or the first group of one

of_answer : (b : ℕ) → AllBytes (b ∷ []) → (s : Soundness) → Fits (b ∷ []) s → (s ≡ answer.Sound) ⊎ (s ≡ answer.Cut) → Completable (b ∷ [])
of_answer b bytes s f (inl e) = volume_begins (b ∷ []) 1 bytes (rw e at f)
of_answer b bytes s f (inr e) = (rw e at f).1 1 (omega arith)

count_answer : (s : List ℕ) (n : ℕ) → (entries_soundness s n [] ≡ answer.Sound) ⊎ (entries_soundness s n [] ≡ answer.Cut)
unfolding entries_soundness entry_soundness groups_soundness read_entry read_value read_groups
count_answer s zero = inl refl
count_answer s (suc n) = inr refl

first_group : (b : ℕ) → 128 ≤ b → read_value count_range (b ∷ []) ≡ refused 16
unfolding read_value
first_group b h = rw (read_more 2 0 b [] h, read_end 1 1)

one_byte : (b : ℕ) → b < 256 → Completable (b ∷ [])
one_byte b l =
    let s : List ℕ = b ∷ [] in
    let bytes : AllBytes s = cons_below [] l (λ k. omega arith) in
    of_answer b bytes (volume_soundness s) (volume_fits s bytes) (⊎_elim
    (λ (h : b < 128).
    let e = in_entries s (record { value = b; rest = [] })
    (rw (number_last b h) at (value_back count_range (omega arith) b [] (range_holds 0 2000 b (omega arith) (omega arith)))) in
    rw e (count_answer s b))
    (λ (h : 128 ≤ b). inr (in_count s (first_group b h) ∙ groups_more s 2000 0 1 b [] h (omega arith) ∙ groups_end s 2000 (0 + 1 * (b - 128)) (128 * 1)))
    (below_or_not b 128))

pub hopeless_least : (string : List ℕ) (n : ℕ) → AllBytes string → Fits string (answer.Hopeless n) → 2 ≤ n
hopeless_least string zero bytes h = absurd (h.1 empty_completable)
hopeless_least [] (suc zero) bytes h = absurd (omega (arith, h.0))
hopeless_least (b ∷ string) (suc zero) bytes h = absurd (h.1 (one_byte b (bytes 0)))
hopeless_least string (suc (suc n)) bytes h = omega arith
