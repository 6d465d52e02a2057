-- A string that is cut is refused with 16, since it ends early. Assumes nothing.
use mathlib.Core.Path.{◌≡◌, refl, sym, ap, ◌∙◌}
use mathlib.Core.Logic.{⊎_elim}
use mathlib.Core.List.{List, [], ◌∷◌}
use Prim.Native.Nat.{ℕ, zero, suc, ◌+◌, ◌-◌, ◌*◌, ◌^◌, ◌≤◌, ◌<◌}
use native.Mathlib.Omega.{arith}
use Rattle.laws.specs.Result.{Result, refused, accepted, ◌>>=◌}
use Rattle.laws.proofs.Lists.{below_or_not}
use Rattle.word.specs.Bytes.{AllBytes}
use Rattle.varint.specs.Number.{Reading, ended, before, read_groups}
use Rattle.varint.proofs.Reading.{read_end, read_more}
use Rattle.volume.specs.declared.Range.{Range}
use Rattle.volume.specs.Volume.{count_range, minutes_range, litres_range, ratio_range, product_range}
use Rattle.volume.specs.Calls.{ValueRead, EntryRead, read_value, read_entry, read_entries, entries_in}
use Rattle.volume.proofs.FourNumbers.{entry_of}
use Rattle.volume.proofs.EntryByEntry.{joined, entries_suc}
use Rattle.volume.proofs.Ranges.{volume_lines}
use Rattle.soundness.specs.declared.Soundness.{Soundness}
use Rattle.soundness.specs.declared.Soundness.TheVariants as answer
use Rattle.soundness.specs.Soundness.{Fits}
use Rattle.soundness.specs.Found.{either, groups_soundness, number_soundness, after_number, entry_soundness, entries_soundness, volume_soundness}
use Rattle.varint.proofs.Place.{onto}
use Rattle.soundness.proofs.InNumber.{HasOne, ranged, all_read, least_with, next_left, groups_last, groups_beyond, groups_more}
use Rattle.soundness.proofs.InVolume.{count_one, minutes_one, litres_one, ratio_one, product_one, volume_fits}
use Rattle.soundness.proofs.Answers.{same}

not_cut : {C : Type 0} {n : ℕ} → answer.Hopeless n ≡ answer.Cut → C
not_cut e = let z : ◌≡◌ {A = ℕ} 0 1 = cc in absurd (omega arith)

module _ (string : List ℕ) where
  groups_cut : (most : ℕ) (groups : List ℕ) (k least value weight : ℕ) → value + weight ≤ most → most < weight * 128 ^ k
      → groups_soundness string most value weight groups ≡ answer.Cut → read_groups k least groups ≡ ended
  groups_cut most groups zero least value weight h l e = absurd (omega arith)
  groups_cut most [] (suc k) least value weight h l e = read_end k least
  groups_cut most (b ∷ s) (suc k) least value weight h l e = ⊎_elim
      (λ (m : b < 128). not_cut (sym (groups_last string most value weight b s m) ∙ e))
      (λ (m : 128 ≤ b).
      ⊎_elim
      (λ (o : most < value + weight * b). not_cut (sym (groups_beyond string most value weight b s m o) ∙ e))
      (λ (o : value + weight * b ≤ most).
      let c = groups_cut most s k 1 (value + weight * (b - 128)) (128 * weight) (rw (least_with value weight b m) o) (next_left most weight k l)
      (sym (groups_more string most value weight b s m o) ∙ e) in
      read_more k least b s m ∙ ap (before b) c)
      (below_or_not most (value + weight * b)))
      (below_or_not b 128)

  number_cut : (range : Range) → HasOne range → (rest : List ℕ) → number_soundness string range rest ≡ answer.Cut → read_value range rest ≡ refused 16
  number_cut range one rest e =
      let c = groups_cut range.most rest 3 0 0 1 (omega (arith, one.to)) (omega (arith, one.small)) e in
      all_read range rest ∙ ap (λ (f : Reading). ranged range (onto 0 1 f)) c

  module _ {B : Type 0} (range : Range) (one : HasOne range) (rest : List ℕ) (f : ValueRead → Soundness) (next : ValueRead → Result B)
      (k : (v : ValueRead) → f v ≡ answer.Cut → next v ≡ refused 16) where
    by_number : (r : Result ValueRead) → read_value range rest ≡ r → either r (number_soundness string range rest) f ≡ answer.Cut
        → (r >>= next) ≡ refused 16
    by_number (refused m) e c = ap (λ (r : Result ValueRead). r >>= next) (sym e ∙ number_cut range one rest c)
    by_number (accepted v) e c = k v c

    then_cut : after_number string range rest f ≡ answer.Cut → (read_value range rest >>= next) ≡ refused 16
    then_cut c = by_number (read_value range rest) refl c

  entry_cut : (rest : List ℕ) → entry_soundness string rest ≡ answer.Cut → read_entry rest ≡ refused 16
  unfolding entry_soundness read_entry
  entry_cut rest =
      then_cut minutes_range minutes_one rest _ _ λ minutes.
      then_cut litres_range litres_one minutes.rest _ _ λ litres.
      then_cut ratio_range ratio_one litres.rest _ _ λ ratio e.
      ap (λ (r : Result ValueRead). r >>= λ product. accepted (entry_of minutes litres ratio product)) (number_cut product_range product_one ratio.rest e)

  by_entry : (n : ℕ) (rest : List ℕ) → ((others : List ℕ) → entries_soundness string n others ≡ answer.Cut → read_entries n others ≡ refused 16)
      → (r : Result EntryRead) → read_entry rest ≡ r
      → either r (entry_soundness string rest) (λ first. entries_soundness string n first.rest) ≡ answer.Cut
      → (r >>= λ first. read_entries n first.rest >>= λ others. accepted (joined first others)) ≡ refused 16
  by_entry n rest k (refused m) e c =
      ap (λ (r : Result EntryRead). r >>= λ first. read_entries n first.rest >>= λ others. accepted (joined first others)) (sym e ∙ entry_cut rest c)
  by_entry n rest k (accepted first) e c = rw (k first.rest c)

  entries_cut : (n : ℕ) (rest : List ℕ) → entries_soundness string n rest ≡ answer.Cut → read_entries n rest ≡ refused 16
  unfolding entries_soundness
  entries_cut zero [] e = let z : ◌≡◌ {A = ℕ} 0 1 = cc in absurd (omega arith)
  entries_cut zero (b ∷ rest) e = not_cut e
  entries_cut (suc n) rest e = entries_suc n rest ∙ by_entry n rest (entries_cut n) (read_entry rest) refl e

  volume_cut : volume_soundness string ≡ answer.Cut → entries_in string ≡ refused 16
  unfolding volume_soundness
  volume_cut e = volume_lines string ∙ then_cut count_range count_one string _ _ (λ count c. rw (entries_cut count.value count.rest c)) e

  pub cut_ends : AllBytes string → Fits string answer.Cut → entries_in string ≡ refused 16
  cut_ends bytes c = volume_cut (same string bytes (volume_soundness string) answer.Cut (volume_fits string bytes) c)
