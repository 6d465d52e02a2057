-- The propositions on where a volume became hopeless, from the laws of the crate `soundness`. Assumes nothing.
use mathlib.Core.Path.{◌≡◌, refl, sym, ap, ◌∙◌}
use mathlib.Core.Bool.{Bool, true, ◌&&◌}
use mathlib.Core.List.{List, [], ◌∷◌, ◌++◌}
use mathlib.Core.Logic.{◌↔◌}
use Prim.Native.Nat.{ℕ, zero, suc, ◌-◌, ◌≤◌}
use native.Mathlib.Omega.{arith}
use borrow.Author.Tests.{ltb-true}
use lib.Dec.{ltb}
use lib.ListN.{length, take, length-append}
use lib.Seq.{length-take-le}
use Rattle.laws.specs.Result.{Result, refused, accepted}
use Rattle.laws.proofs.Results.{no_refusal}
use Rattle.laws.proofs.Same.{and_left, and_right}
use Rattle.laws.proofs.Lists.{append_below, cons_below, take_below}
use Rattle.word.specs.Bytes.{AllBytes}
use Rattle.varint.specs.Number.{number, read_groups}
use Rattle.volume.specs.declared.Entry.{Entry}
use Rattle.volume.specs.Volume.{count_range, entries_string, volume_string}
use Rattle.volume.specs.Calls.{VolumeRead, read_value, read_entry, read_volume}
use Rattle.volume.proofs.Values.{range_holds, range_most}
use Rattle.volume.proofs.Ranges.{volume_in_range}
use Rattle.volume.proofs.Shows.{read_shows, read_accepts}
use Rattle.volume.proofs.Undo.{volume_bytes, after_below}
use Rattle.soundness.specs.declared.Soundness.{Soundness}
use Rattle.soundness.specs.declared.Soundness.TheVariants as answer
use Rattle.soundness.specs.Soundness.{Completable, Fits}
use Rattle.soundness.specs.Found.{groups_soundness, entry_soundness, entries_soundness, volume_soundness}
use Rattle.soundness.proofs.Completions.{entries_volume}
use Rattle.soundness.proofs.InVolume.{volume_fits}
use Rattle.soundness.proofs.Answers as Answers
use Rattle.soundness.proofs.RatioThird as Ratio
use Rattle.soundness.proofs.CutEnds.{cut_ends}
use Rattle.theorems.specs.ShiftVolume.{Volume}
use Rattle.theorems.specs.WhereHopeless.{RatioThird, WhereHopeless}
use Rattle.theorems.proofs.ShiftVolume.{shift_volume, all_entries, volume_length}

-- ── reading and volumes ──

refused_one : {n m : ℕ} → ◌≡◌ {A = Result VolumeRead} (refused n) (refused m) → n ≡ m
refused_one e = cc

sound_read : (string list : List ℕ) → 8000 ≤ length list → Fits string answer.Sound ↔ ((read : VolumeRead) × (read_volume string list ≡ accepted read))
sound_read string list room = (
  (λ v.
      let s = read_shows string v.0 v.1 v.2 in
      let most = range_most count_range (length s.entries) (volume_in_range string s.entries s.entries_are).count_in_lem in
      (_, read_accepts string list s.entries s.entries_are (omega arith))),
  (λ r. (list, r.0, r.1)),
)

sound_iff : (string : List ℕ) → AllBytes string → Fits string answer.Sound ↔ ((entries : List Entry) × Volume string entries)
sound_iff string bytes = (
  (λ v. let s = read_shows string v.0 v.1 v.2 in (s.entries, (shift_volume.read_iff string s.entries bytes).0 s.entries_are)),
  (λ e. entries_volume string e.0 ((shift_volume.read_iff string e.0 bytes).1 e.1)),
)

completable_iff : (beginning : List ℕ) → AllBytes beginning
    → Completable beginning ↔ ((rest : List ℕ) × (entries : List Entry) × Volume (beginning ++ rest) entries)
completable_iff beginning bytes = (
  (λ c. let v = (sound_iff (beginning ++ c.0) (append_below beginning c.0 bytes c.1)).0 c.2 in (c.0, v.0, v.1)),
  (λ v.
      let all : AllBytes (beginning ++ v.0) = rw v.2.string_is (volume_bytes v.1) in
      (v.0, after_below beginning v.0 all, (sound_iff (beginning ++ v.0) all).1 (v.1, v.2))),
)

cut_16 : (string list : List ℕ) → AllBytes string → Fits string answer.Cut → read_volume string list ≡ refused 16
cut_16 string list bytes c = (shift_volume.read_refused string list 16 (λ e. omega arith)).1 (cut_ends string bytes c)

hopeless_else : (string list : List ℕ) (n : ℕ) → AllBytes string → read_volume string list ≡ refused n → (n ≡ 16 → ⊥) → (n ≡ 8 → ⊥)
    → (s : Soundness) → Fits string s → (m : ℕ) × Fits string (answer.Hopeless m)
hopeless_else string list n bytes e h k answer.Sound v =
    let s = read_shows string v.0 v.1 v.2 in
    no_refusal (sym s.entries_are ∙ (shift_volume.read_refused string list n k).0 e)
hopeless_else string list n bytes e h k answer.Cut c = absurd (h (refused_one (sym e ∙ cut_16 string list bytes c)))
hopeless_else string list n bytes e h k (answer.Hopeless m) f = (m, f)

-- the beginning that is a byte shorter is one of a volume
hopeless_most : (string : List ℕ) (n : ℕ) → AllBytes string → Fits string (answer.Hopeless n) → n ≤ 16003
hopeless_most string zero bytes h = omega arith
hopeless_most string (suc n) bytes h =
    let v = (completable_iff (take n string) (take_below n string bytes)).0 (h.2 n (omega arith)) in
    let l = volume_length v.1 v.2.count v.2.in_range_lem in
    let e : length (take n string ++ v.0) ≡ length (volume_string v.1) = ap length v.2.string_is in
    omega (arith, length-append (take n string) v.0, length-take-le n string (omega (arith, h.0)), l.1)

-- ── a ratio's second group ──

ratio_third : (string rest : List ℕ) → AllBytes string → RatioThird string rest → Fits string (answer.Hopeless (length string - length rest))
ratio_third string rest bytes r =
    let from_entries = after_below (number r.count) _ (rw r.string_is at bytes) in
    let from_litres = after_below (number r.minutes) _ (after_below (entries_string r.entries) _ from_entries) in
    let groups = after_below (number r.litres) (r.first ∷ r.second ∷ rest) from_litres in
    rw r.string_is
    (Ratio.ratio_third r.count r.entries r.minutes r.litres r.first r.second rest r.count_in_lem r.fewer (all_entries r.entries r.in_range_lem)
    (range_holds 0 1440 r.minutes (omega arith) r.minutes_in) (range_holds 0 100000 r.litres (omega arith) r.litres_in)
    r.announce.0 (groups 0) r.announce.1 (groups 1) (λ i. groups (suc (suc i))))

-- ── examples ──

abbrev below : List ℕ → Bool
below [] = true
below (b ∷ string) = ltb b 256 && below string

all_below : (string : List ℕ) → below string ≡ true → AllBytes string
all_below [] h = λ k. omega arith
all_below (b ∷ string) h = cons_below string (ltb-true b 256 (and_left (ltb b 256) (below string) h)) (all_below string (and_right (ltb b 256) (below string) h))

-- what the code works out for a string of bytes
worked : (string : List ℕ) (s : Soundness) → below string ≡ true → volume_soundness string ≡ s → Fits string s
worked string s h e = rw e at (volume_fits string (all_below string h))

pub where_hopeless : WhereHopeless
unfolding volume_soundness entries_soundness entry_soundness groups_soundness read_entry read_value read_groups
where_hopeless = record {
  one_answer = λ string bytes.
      (volume_soundness string, volume_fits string bytes, λ other h. Answers.same string bytes other (volume_soundness string) h (volume_fits string bytes));
  sound_read = sound_read;
  sound_iff = sound_iff;
  completable_iff = completable_iff;
  begins = Answers.begins;
  cut_iff = Answers.cut_iff;
  cut_16 = cut_16;
  hopeless_refused = λ string n bytes h v. h.1 (Answers.volume_begins string n bytes v);
  refused_hopeless = λ string list n bytes e h k.
      hopeless_else string list n bytes e h k (volume_soundness string) (volume_fits string bytes);
  hopeless_stays = λ string rest n bytes. Answers.stays string bytes n rest;
  hopeless_between = λ string n bytes h. (Answers.hopeless_least string n bytes h, hopeless_most string n bytes h);
  ratio_third = ratio_third;
  bytes_after = λ string rest b bytes. Answers.after_volume string b rest bytes;
  after_none = worked (0x00 ∷ 0x00 ∷ []) (answer.Hopeless 2) refl refl;
  empty = Answers.empty_cut;
  entry_missing = worked (0x02 ∷ 0x00 ∷ 0x00 ∷ 0x00 ∷ 0x08 ∷ []) answer.Cut refl refl;
  count_2000 = worked (0xD0 ∷ 0x0F ∷ []) answer.Cut refl refl;
  count_2001 = worked (0xD1 ∷ 0x0F ∷ []) (answer.Hopeless 2) refl refl;
  count_last_0 = worked (0x80 ∷ 0x00 ∷ []) (answer.Hopeless 2) refl refl;
  count_third = worked (0xD0 ∷ 0x8F ∷ []) (answer.Hopeless 2) refl refl;
  minutes_1440 = worked (0x01 ∷ 0xA0 ∷ 0x0B ∷ []) answer.Cut refl refl;
  minutes_1441 = worked (0x01 ∷ 0xA1 ∷ 0x0B ∷ []) (answer.Hopeless 3) refl refl;
  minutes_third = worked (0x01 ∷ 0x80 ∷ 0x80 ∷ []) (answer.Hopeless 3) refl refl;
  litres_third = worked (0x01 ∷ 0x00 ∷ 0xFF ∷ 0xFF ∷ []) answer.Cut refl refl;
  litres_100000 = worked (0x01 ∷ 0x00 ∷ 0xA0 ∷ 0x8D ∷ 0x06 ∷ []) answer.Cut refl refl;
  litres_100001 = worked (0x01 ∷ 0x00 ∷ 0xA1 ∷ 0x8D ∷ 0x06 ∷ []) (answer.Hopeless 5) refl refl;
  litres_last_0 = worked (0x01 ∷ 0x00 ∷ 0x80 ∷ 0x80 ∷ 0x00 ∷ []) (answer.Hopeless 5) refl refl;
  litres_fourth = worked (0x01 ∷ 0x00 ∷ 0x80 ∷ 0x80 ∷ 0x80 ∷ []) (answer.Hopeless 5) refl refl;
  ratio_first = worked (0x01 ∷ 0x00 ∷ 0x00 ∷ 0x90 ∷ []) answer.Cut refl refl;
  ratio_10000 = worked (0x01 ∷ 0x00 ∷ 0x00 ∷ 0x90 ∷ 0x4E ∷ []) answer.Cut refl refl;
  ratio_10001 = worked (0x01 ∷ 0x00 ∷ 0x00 ∷ 0x91 ∷ 0x4E ∷ []) (answer.Hopeless 5) refl refl;
  ratio_second = worked (0x01 ∷ 0x00 ∷ 0x00 ∷ 0x90 ∷ 0xCE ∷ []) (answer.Hopeless 5) refl refl;
  product_0 = worked (0x01 ∷ 0x00 ∷ 0x00 ∷ 0x00 ∷ 0x00 ∷ []) (answer.Hopeless 5) refl refl;
  product_8 = worked (0x01 ∷ 0x00 ∷ 0x00 ∷ 0x00 ∷ 0x08 ∷ []) answer.Sound refl refl;
  product_9 = worked (0x01 ∷ 0x00 ∷ 0x00 ∷ 0x00 ∷ 0x09 ∷ []) (answer.Hopeless 5) refl refl;
  product_second = worked (0x01 ∷ 0x00 ∷ 0x00 ∷ 0x00 ∷ 0x81 ∷ []) (answer.Hopeless 5) refl refl;
}
