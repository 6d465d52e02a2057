-- Document 02 (j), where a volume became hopeless: 'The definition speaks about completions and not about the reader.' Reading is asked only whether
-- it accepts a string; `sound_iff` and `completable_iff` of WhereHopeless say the same by the volumes of entries.
use Rattle.std.specs.Prelude.{◌≡◌, List, ◌++◌, ℕ, ◌≤◌, ◌<◌, length, take}
use Rattle.laws.specs.Result.{accepted}
use Rattle.word.specs.Bytes.{AllBytes}
use Rattle.volume.specs.Calls.{VolumeRead, read_volume}
use Rattle.soundness.specs.declared.Soundness.{Soundness}
use Rattle.soundness.specs.declared.Soundness.TheVariants as answer
use Rattle.soundness.specs.declared.SoundnessAnswer.{SoundnessAnswer}

-- 'a volume that reading accepts': reading accepts the string into some list, one that is long enough
abbrev pub IsVolume : (string : List ℕ) → Type 0
IsVolume string = (list : List ℕ) × (read : VolumeRead) × (read_volume string list ≡ accepted read)

-- bytes 'could complete' a beginning 'into a valid volume': some bytes after it, or none, make it one
abbrev pub Completable : (beginning : List ℕ) → Type 0
Completable beginning = (rest : List ℕ) × AllBytes rest × IsVolume (beginning ++ rest)

-- The answer that fits a string. The first n bytes are one of its beginnings, for each n from 0 to its length.
abbrev pub Fits : (string : List ℕ) → Soundness → Type 0
-- 'a volume that reading accepts is answered as sound'
Fits string answer.Sound = IsVolume string
-- 'If each beginning, the whole included, can still be completed, the answer is that the volume is only cut', where it is not sound
Fits string answer.Cut = (IsVolume string → ⊥) × ((n : ℕ) → n ≤ length string → Completable (take n string))
-- 'When a volume is refused, the lab wants the shortest beginning of it that no bytes whatsoever could complete into a valid volume. Return its
-- length.' That it is refused follows: a volume completes each of its beginnings.
Fits string (answer.Hopeless n) =
    (n ≤ length string) × (Completable (take n string) → ⊥) × ((m : ℕ) → m < n → Completable (take m string))

-- ── for C ──

-- an answer as a struct, whose length is 0 unless the volume is hopeless
abbrev pub for_c : Soundness → SoundnessAnswer
for_c answer.Sound = record { answer = 0; length = 0 }
for_c answer.Cut = record { answer = 1; length = 0 }
for_c (answer.Hopeless n) = record { answer = 2; length = n }

-- a struct that holds the answer that fits a string
abbrev pub Given : (string : List ℕ) → SoundnessAnswer → Type 0
Given string r = (s : Soundness) × (r ≡ for_c s) × Fits string s
