-- Document 02 (j), where a volume became hopeless: exactly one answer fits each string, what each answer says of reading and of the strings that
-- begin alike, and the numbers that are hopeless before their last group.
use Rattle.std.specs.Prelude.{◌≡◌, List, [], ◌∷◌, ◌++◌, ◌↔◌, ℕ, suc, ◌-◌, ◌≤◌, ◌<◌, length, take}
use Rattle.laws.specs.Result.{refused, accepted}
use Rattle.word.specs.Bytes.{AllBytes}
use Rattle.varint.specs.Number.{number}
use Rattle.volume.specs.declared.Entry.{Entry}
use Rattle.volume.specs.Volume.{entries_string}
use Rattle.volume.specs.Calls.{VolumeRead, read_volume}
use Rattle.soundness.specs.declared.Soundness.{Soundness}
use Rattle.soundness.specs.declared.Soundness.TheVariants as answer
use Rattle.soundness.specs.Soundness.{IsVolume, Completable, Fits}
use Rattle.theorems.specs.ShiftVolume.{AllInRange, Volume}

-- a count, fewer entries than it says, minutes, litres and two groups of a ratio, the second of which announces a third; `rest` comes after it
pub record RatioThird (string rest : List ℕ) : Type 0 where
  pub count : ℕ
  pub entries : List Entry
  pub minutes : ℕ
  pub litres : ℕ
  pub first : ℕ
  pub second : ℕ
  pub string_is : string ≡ number count ++ (entries_string entries ++ (number minutes ++ (number litres ++ (first ∷ second ∷ rest))))
  pub count_in_lem : count ≤ 2000
  pub fewer : length entries < count
  pub in_range_lem : AllInRange entries
  pub minutes_in : minutes ≤ 1440
  pub litres_in : litres ≤ 100000
  pub announce : (128 ≤ first) × (128 ≤ second)

pub record WhereHopeless : Type 0 where
  -- Exactly one answer fits each string.
  pub one_answer :
      (string : List ℕ) → AllBytes string → (s : Soundness) × Fits string s × ((other : Soundness) → Fits string other → other ≡ s)
  -- 'a volume that reading accepts is answered as sound': 8,000 elements are enough for every volume, and into a list that has them reading accepts
  -- exactly the sound strings.
  pub sound_read :
      (string list : List ℕ) → 8000 ≤ length list → Fits string answer.Sound ↔ ((read : VolumeRead) × (read_volume string list ≡ accepted read))
  -- 'The definition speaks about completions and not about the reader': a string is sound exactly where it is the volume of some entries, and a
  -- beginning can be completed exactly where the volume of some entries begins with it.
  pub sound_iff : (string : List ℕ) → AllBytes string → Fits string answer.Sound ↔ ((entries : List Entry) × Volume string entries)
  pub completable_iff :
      (beginning : List ℕ) → AllBytes beginning
      → Completable beginning ↔ ((rest : List ℕ) × (entries : List Entry) × Volume (beginning ++ rest) entries)
  -- 'each beginning, the whole included': where a string can be completed, each of its beginnings can; so a string is cut exactly where it is no
  -- volume and can be completed.
  pub begins : (string : List ℕ) (n : ℕ) → AllBytes string → Completable string → Completable (take n string)
  pub cut_iff : (string : List ℕ) → AllBytes string → Fits string answer.Cut ↔ ((IsVolume string → ⊥) × Completable string)
  -- Where a string is cut, reading refuses it with 16, whatever the list, since it ends early.
  pub cut_16 : (string list : List ℕ) → AllBytes string → Fits string answer.Cut → read_volume string list ≡ refused 16
  -- 'When a volume is refused': a string that is hopeless is no volume, so reading refuses it, whatever the list.
  pub hopeless_refused : (string : List ℕ) (n : ℕ) → AllBytes string → Fits string (answer.Hopeless n) → IsVolume string → ⊥
  -- Where reading refuses a string with another number than 16 and 8, so with 14 or 15, it is hopeless.
  pub refused_hopeless :
      (string list : List ℕ) (n : ℕ) → AllBytes string → read_volume string list ≡ refused n → (n ≡ 16 → ⊥) → (n ≡ 8 → ⊥)
      → (m : ℕ) × Fits string (answer.Hopeless m)
  -- 'the shortest beginning of it that no bytes whatsoever could complete': with any other bytes after that beginning the string is hopeless at the
  -- same length, which is 2 at least, since any byte begins some volume, and 16,003 at most, since no volume has more than 16,002 bytes.
  pub hopeless_stays :
      (string rest : List ℕ) (n : ℕ) → AllBytes string → Fits string (answer.Hopeless n) → Fits (take n string ++ rest) (answer.Hopeless n)
  pub hopeless_between : (string : List ℕ) (n : ℕ) → AllBytes string → Fits string (answer.Hopeless n) → (2 ≤ n) × (n ≤ 16003)
  -- 'A number may be hopeless before its last group: a ratio whose second group announces a third is one': the string is hopeless at that group,
  -- whatever comes after it.
  pub ratio_third :
      (string rest : List ℕ) → AllBytes string → RatioThird string rest → Fits string (answer.Hopeless (length string - length rest))
  -- A volume with bytes after its last entry is hopeless at the first of them, also one of no entries.
  pub bytes_after :
      (string rest : List ℕ) (b : ℕ) → AllBytes string → Fits string answer.Sound
      → Fits (string ++ (b ∷ rest)) (answer.Hopeless (suc (length string)))
  pub after_none : Fits (0x00 ∷ 0x00 ∷ []) (answer.Hopeless 2)
  -- The empty string is cut, and so is one that ends after the first of two entries.
  pub empty : Fits [] answer.Cut
  pub entry_missing : Fits (0x02 ∷ 0x00 ∷ 0x00 ∷ 0x00 ∷ 0x08 ∷ []) answer.Cut
  -- A count: 2,000, 2,001, a last group 0, and a second group that announces a third.
  pub count_2000 : Fits (0xD0 ∷ 0x0F ∷ []) answer.Cut
  pub count_2001 : Fits (0xD1 ∷ 0x0F ∷ []) (answer.Hopeless 2)
  pub count_last_0 : Fits (0x80 ∷ 0x00 ∷ []) (answer.Hopeless 2)
  pub count_third : Fits (0xD0 ∷ 0x8F ∷ []) (answer.Hopeless 2)
  -- Minutes: 1,440, 1,441, and a second group that announces a third.
  pub minutes_1440 : Fits (0x01 ∷ 0xA0 ∷ 0x0B ∷ []) answer.Cut
  pub minutes_1441 : Fits (0x01 ∷ 0xA1 ∷ 0x0B ∷ []) (answer.Hopeless 3)
  pub minutes_third : Fits (0x01 ∷ 0x80 ∷ 0x80 ∷ []) (answer.Hopeless 3)
  -- Litres: two groups, the second of which announces a third; 100,000; 100,001; a last group 0 of three; and a third group that announces another.
  pub litres_third : Fits (0x01 ∷ 0x00 ∷ 0xFF ∷ 0xFF ∷ []) answer.Cut
  pub litres_100000 : Fits (0x01 ∷ 0x00 ∷ 0xA0 ∷ 0x8D ∷ 0x06 ∷ []) answer.Cut
  pub litres_100001 : Fits (0x01 ∷ 0x00 ∷ 0xA1 ∷ 0x8D ∷ 0x06 ∷ []) (answer.Hopeless 5)
  pub litres_last_0 : Fits (0x01 ∷ 0x00 ∷ 0x80 ∷ 0x80 ∷ 0x00 ∷ []) (answer.Hopeless 5)
  pub litres_fourth : Fits (0x01 ∷ 0x00 ∷ 0x80 ∷ 0x80 ∷ 0x80 ∷ []) (answer.Hopeless 5)
  -- A ratio: its first group, 10,000, 10,001, and a second group that announces a third, where reading says 16.
  pub ratio_first : Fits (0x01 ∷ 0x00 ∷ 0x00 ∷ 0x90 ∷ []) answer.Cut
  pub ratio_10000 : Fits (0x01 ∷ 0x00 ∷ 0x00 ∷ 0x90 ∷ 0x4E ∷ []) answer.Cut
  pub ratio_10001 : Fits (0x01 ∷ 0x00 ∷ 0x00 ∷ 0x91 ∷ 0x4E ∷ []) (answer.Hopeless 5)
  pub ratio_second : Fits (0x01 ∷ 0x00 ∷ 0x00 ∷ 0x90 ∷ 0xCE ∷ []) (answer.Hopeless 5)
  -- A product: 0, 8, 9, and a first group that announces a second.
  pub product_0 : Fits (0x01 ∷ 0x00 ∷ 0x00 ∷ 0x00 ∷ 0x00 ∷ []) (answer.Hopeless 5)
  pub product_8 : Fits (0x01 ∷ 0x00 ∷ 0x00 ∷ 0x00 ∷ 0x08 ∷ []) answer.Sound
  pub product_9 : Fits (0x01 ∷ 0x00 ∷ 0x00 ∷ 0x00 ∷ 0x09 ∷ []) (answer.Hopeless 5)
  pub product_second : Fits (0x01 ∷ 0x00 ∷ 0x00 ∷ 0x00 ∷ 0x81 ∷ []) (answer.Hopeless 5)
