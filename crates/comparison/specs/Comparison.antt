-- Document 02 (k), blender log against tank gauge: the two calls as one definition of the two strings. The result is the refusal or the part handed
-- back of an accepted pair; of the outcome one call gives the refusal number, and the other the part.
use Rattle.std.specs.Prelude.{Bool, cond, ◌&&◌, List, [], ◌∷◌, ℕ, suc, ◌+◌, eqb, ltb, length, take, drop}
use Rattle.laws.specs.Result.{Result, accepted, Outcome, outcome, ◌>>=◌}
use Rattle.varint.specs.Number.{number}
use Rattle.volume.specs.declared.Entry.{Entry}
use Rattle.volume.specs.Volume.{entries_string}
use Rattle.volume.specs.Calls.{entries_in}
use Rattle.comparison.specs.declared.Part.{Part}
use Rattle.comparison.specs.declared.Part.TheVariants as part
use Rattle.comparison.specs.declared.PartAnswer.{PartAnswer}

-- 'the same entry': the same four numbers
abbrev pub same_entry : (b g : Entry) → Bool
same_entry b g = eqb b.minutes g.minutes && eqb b.litres g.litres && eqb b.ratio g.ratio && eqb b.product g.product

-- 'Go through both entry by entry up to the first place where they don't have the same entry': how many entries come before that place
unfoldable pub same_entries : (blenders gauges : List Entry) → ℕ
same_entries (b ∷ blenders) (g ∷ gauges) = cond (same_entry b g) (suc (same_entries blenders gauges)) 0
same_entries (b ∷ blenders) [] = 0
same_entries [] gauges = 0

-- 'the bytes from there ..': the byte of a recording at which its entry k begins, counted from 0, and its end where it has only k; the count comes
-- first
abbrev pub entry_begins : (entries : List Entry) (k : ℕ) → ℕ
entry_begins entries k = length (number (length entries)) + length (entries_string (take k entries))

-- '.. to the end of one recording': how many bytes its entries from k on have
abbrev pub bytes_left : (entries : List Entry) (k : ℕ) → ℕ
bytes_left entries k = length (entries_string (drop k entries))

-- which of two parts is handed back, the blender's or the gauge's, by the entries that are left of both from that place on
abbrev pub choose : (blendersLeft gaugesLeft : List Entry) (ofBlender ofGauge : Part) → Part
-- 'the longer one if the other has ended,
choose (b ∷ _) [] ofBlender ofGauge = ofBlender
choose [] (g ∷ _) ofBlender ofGauge = ofGauge
-- else the one with the smaller ratio, the blender's if the ratios are equal.
choose (b ∷ _) (g ∷ _) ofBlender ofGauge = cond (ltb g.ratio b.ratio) ofGauge ofBlender
-- Both ended gives the empty end of the blender's.'
choose [] [] ofBlender ofGauge = ofBlender

-- the part handed back of two volumes with these entries, of which the first k are the same
unfoldable pub part_from : (k : ℕ) (blenders gauges : List Entry) → Part
part_from k blenders gauges =
    choose (drop k blenders) (drop k gauges)
    (part.Blender (entry_begins blenders k) (bytes_left blenders k))
    (part.Gauge (entry_begins gauges k) (bytes_left gauges k))

-- 'the number of a refused pair, as volume reading refuses, the blender's first'
unfoldable pub compare_recordings : (blender gauge : List ℕ) → Result Part
compare_recordings blender gauge = do
  blenders ← entries_in blender
  gauges ← entries_in gauge
  accepted (part_from (same_entries blenders gauges) blenders gauges)

-- 'A call of its own gives 0, or the number of a refused pair ..; the part handed back is then the empty beginning of the blender's buffer.'
unfoldable pub compare_recordings_call : (blender gauge : List ℕ) → Outcome Part
compare_recordings_call blender gauge = outcome (part.Blender 0 0) (compare_recordings blender gauge)

-- ── for C ──

-- a part as a struct: recording 0 is the blender's, 1 the gauge's
abbrev pub for_c : Part → PartAnswer
for_c (part.Blender from n) = record { recording = 0; from = from; length = n }
for_c (part.Gauge from n) = record { recording = 1; from = from; length = n }
