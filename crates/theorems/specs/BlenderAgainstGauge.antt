-- Document 02 (k), blender log against tank gauge: which part of which recording is handed back, said of the two strings without the definition of
-- the calls; which pairs are refused; that the two calls agree on every pair; and single pairs.
use Rattle.std.specs.Prelude.{◌≡◌, List, [], ◌∷◌, ◌++◌, ◌↔◌, ◌⊎◌, ℕ, ◌+◌, ◌≤◌, ◌<◌, length, take, drop, replicate}
use Rattle.std.specs.Borrow.{Bor}
use Rattle.laws.specs.Result.{refused, accepted}
use Rattle.word.specs.Bytes.{AllBytes}
use Rattle.volume.specs.declared.Entry.{Entry}
use Rattle.volume.specs.Volume.{entries_string, volume_string}
use Rattle.volume.specs.Calls.{read_volume}
use Rattle.comparison.specs.declared.Part.{Part}
use Rattle.comparison.specs.declared.Part.TheVariants as part
use Rattle.comparison.specs.Comparison.{compare_recordings, compare_recordings_call}
use Rattle.comparison.specs.Parts.{slice_in}
use Rattle.theorems.specs.ShiftVolume.{Volume}

-- 'they don't have the same entry': there is no entry with which both begin
abbrev pub Differ : (blenders gauges : List Entry) → Type 0
Differ (b ∷ _) (g ∷ _) = b ≡ g → ⊥
Differ [] _ = Unit {0}
Differ (b ∷ _) [] = Unit {0}

-- 'the bytes from there to the end of one recording': n bytes of the string, from byte `from` to its end, which are those of the entries left
pub record Rest (string : List ℕ) (left : List Entry) (from n : ℕ) : Type 0 where
  pub to_end : from + n ≡ length string
  pub bytes_are : take n (drop from string) ≡ entries_string left

-- the part is that of the blender's recording, or of the gauge's
abbrev pub BlendersRest : (string : List ℕ) (left : List Entry) → Part → Type 0
BlendersRest string left (part.Blender from n) = Rest string left from n
BlendersRest string left (part.Gauge from n) = ⊥

abbrev pub GaugesRest : (string : List ℕ) (left : List Entry) → Part → Type 0
GaugesRest string left (part.Blender from n) = ⊥
GaugesRest string left (part.Gauge from n) = Rest string left from n

-- which recording the part is of, by the entries left of both
abbrev pub Chosen : (blender gauge : List ℕ) (blenders gauges : List Entry) → Part → Type 0
-- 'the longer one if the other has ended,
Chosen blender gauge (b ∷ blenders) [] p = BlendersRest blender (b ∷ blenders) p
Chosen blender gauge [] (g ∷ gauges) p = GaugesRest gauge (g ∷ gauges) p
-- else the one with the smaller ratio, the blender's if the ratios are equal.
Chosen blender gauge (b ∷ blenders) (g ∷ gauges) p =
    (g.ratio < b.ratio → GaugesRest gauge (g ∷ gauges) p) × (b.ratio ≤ g.ratio → BlendersRest blender (b ∷ blenders) p)
-- Both ended gives the empty end of the blender's.'
Chosen blender gauge [] [] p = BlendersRest blender [] p

-- 'Go through both entry by entry up to the first place where they don't have the same entry': two volumes with the same entries up to there, and
-- with the entries left from there on
pub record Compared (blender gauge : List ℕ) (p : Part) : Type 0 where
  pub same : List Entry
  pub blenders : List Entry
  pub gauges : List Entry
  pub blender_is : Volume blender (same ++ blenders)
  pub gauge_is : Volume gauge (same ++ gauges)
  pub differ : Differ blenders gauges
  pub chosen : Chosen blender gauge blenders gauges p

-- the byte at which a part begins, and how many bytes it has
abbrev pub from_of : Part → ℕ
from_of (part.Blender from n) = from
from_of (part.Gauge from n) = from

abbrev pub length_of : Part → ℕ
length_of (part.Blender from n) = n
length_of (part.Gauge from n) = n

-- an entry of five bytes, and one with a greater ratio
abbrev pub entry500 : Entry
entry500 = record { minutes = 0; litres = 100; ratio = 500; product = 1 }

abbrev pub entry501 : Entry
entry501 = record { minutes = 0; litres = 100; ratio = 501; product = 1 }

pub record BlenderAgainstGauge : Type 0 where
  -- A pair is accepted with exactly the part that the document's sentences name, and with no other.
  pub compared_iff :
      (blender gauge : List ℕ) (p : Part) → AllBytes blender → AllBytes gauge
      → (compare_recordings blender gauge ≡ accepted p) ↔ Compared blender gauge p
  -- Every pair of volumes is accepted, and no other.
  pub accepted_iff :
      (blender gauge : List ℕ) → AllBytes blender → AllBytes gauge
      → ((p : Part) × (compare_recordings blender gauge ≡ accepted p))
      ↔ (((entries : List Entry) × Volume blender entries) × ((entries : List Entry) × Volume gauge entries))
  -- 'the number of a refused pair, as volume reading refuses, the blender's first': reading's number, whatever the lists are that it reads into, and
  -- the gauge's only where the blender's is a volume. No list is lent here, so that it is never 8.
  pub refused_iff :
      (blender gauge list other : List ℕ) (n : ℕ) → AllBytes blender → (n ≡ 8 → ⊥)
      → (compare_recordings blender gauge ≡ refused n)
      ↔ ((read_volume blender list ≡ refused n) ⊎ (((entries : List Entry) × Volume blender entries) × (read_volume gauge other ≡ refused n)))
  pub never_8 : (blender gauge : List ℕ) → compare_recordings blender gauge ≡ refused 8 → ⊥
  -- 'A call of its own gives 0, or the number of a refused pair ..; the part handed back is then the empty beginning of the blender's buffer.'
  pub of_accepted :
      (blender gauge : List ℕ) (p : Part) → compare_recordings blender gauge ≡ accepted p
      → ((compare_recordings_call blender gauge).refusal ≡ 0) × ((compare_recordings_call blender gauge).value ≡ p)
  pub of_refused :
      (blender gauge : List ℕ) (n : ℕ) → compare_recordings blender gauge ≡ refused n
      → ((compare_recordings_call blender gauge).refusal ≡ n) × ((compare_recordings_call blender gauge).value ≡ part.Blender 0 0)
  -- The two calls agree on every pair: one gives a refusal number exactly where the other hands back the empty beginning of the blender's buffer, and
  -- 0 exactly where the part begins after the first byte, which is the count's.
  pub agree :
      (blender gauge : List ℕ)
      → ((compare_recordings_call blender gauge).refusal ≡ 0 → ⊥) ↔ ((compare_recordings_call blender gauge).value ≡ part.Blender 0 0)
  pub agree_0 :
      (blender gauge : List ℕ) → ((compare_recordings_call blender gauge).refusal ≡ 0) ↔ (1 ≤ from_of (compare_recordings_call blender gauge).value)
  -- The slice begins where the blender's buffer does, and is empty, exactly where the pair is refused.
  pub agree_slice :
      (blender gauge : Bor (List ℕ)) → AllBytes blender.now → AllBytes gauge.now
      → ((compare_recordings_call blender.now gauge.now).refusal ≡ 0 → ⊥)
      ↔ (slice_in blender gauge (compare_recordings_call blender.now gauge.now).value ≡ record { begins = blender.ref_ptr; bytes = [] })
  -- An accepted pair gives no bytes exactly where the recordings are the same string.
  pub none_iff :
      (blender gauge : List ℕ) (p : Part) → AllBytes blender → AllBytes gauge → compare_recordings blender gauge ≡ accepted p
      → (length_of p ≡ 0) ↔ (blender ≡ gauge)
  -- Both have ended: no entries, and one that is the same.
  pub both_empty : compare_recordings (0x00 ∷ []) (0x00 ∷ []) ≡ accepted (part.Blender 1 0)
  pub both_same :
      compare_recordings (0x01 ∷ 0x00 ∷ 0x64 ∷ 0x05 ∷ 0x01 ∷ []) (0x01 ∷ 0x00 ∷ 0x64 ∷ 0x05 ∷ 0x01 ∷ []) ≡ accepted (part.Blender 5 0)
  -- One has ended.
  pub gauge_ended : compare_recordings (0x01 ∷ 0x00 ∷ 0x64 ∷ 0x05 ∷ 0x01 ∷ []) (0x00 ∷ []) ≡ accepted (part.Blender 1 4)
  pub blender_ended : compare_recordings (0x00 ∷ []) (0x01 ∷ 0x00 ∷ 0x64 ∷ 0x05 ∷ 0x01 ∷ []) ≡ accepted (part.Gauge 1 4)
  -- Equal ratios, where minutes, litres or product are smaller in the gauge's.
  pub minutes_differ :
      compare_recordings (0x01 ∷ 0x01 ∷ 0x64 ∷ 0x05 ∷ 0x02 ∷ []) (0x01 ∷ 0x00 ∷ 0x64 ∷ 0x05 ∷ 0x02 ∷ []) ≡ accepted (part.Blender 1 4)
  pub litres_differ :
      compare_recordings (0x01 ∷ 0x00 ∷ 0x64 ∷ 0x05 ∷ 0x02 ∷ []) (0x01 ∷ 0x00 ∷ 0x63 ∷ 0x05 ∷ 0x02 ∷ []) ≡ accepted (part.Blender 1 4)
  pub product_differs :
      compare_recordings (0x01 ∷ 0x00 ∷ 0x64 ∷ 0x05 ∷ 0x02 ∷ []) (0x01 ∷ 0x00 ∷ 0x64 ∷ 0x05 ∷ 0x01 ∷ []) ≡ accepted (part.Blender 1 4)
  -- The gauge's ratio is smaller, and greater, in the second entry; 129 is smaller than 256, though its first byte is not.
  pub gauge_smaller :
      compare_recordings (0x02 ∷ 0x00 ∷ 0x64 ∷ 0x05 ∷ 0x02 ∷ 0x00 ∷ 0x64 ∷ 0x06 ∷ 0x02 ∷ [])
      (0x02 ∷ 0x00 ∷ 0x64 ∷ 0x05 ∷ 0x02 ∷ 0x00 ∷ 0x64 ∷ 0x05 ∷ 0x02 ∷ []) ≡ accepted (part.Gauge 5 4)
  pub gauge_greater :
      compare_recordings (0x02 ∷ 0x00 ∷ 0x64 ∷ 0x05 ∷ 0x02 ∷ 0x00 ∷ 0x64 ∷ 0x05 ∷ 0x02 ∷ [])
      (0x02 ∷ 0x00 ∷ 0x64 ∷ 0x05 ∷ 0x02 ∷ 0x00 ∷ 0x64 ∷ 0x06 ∷ 0x02 ∷ []) ≡ accepted (part.Blender 5 4)
  pub gauge_129 :
      compare_recordings (0x01 ∷ 0x00 ∷ 0x64 ∷ 0x80 ∷ 0x02 ∷ 0x02 ∷ []) (0x01 ∷ 0x00 ∷ 0x64 ∷ 0x81 ∷ 0x01 ∷ 0x02 ∷ []) ≡ accepted (part.Gauge 1 5)
  -- Counts of one and of two bytes in front of the same entries, which then stand at different places: 127 and 128 entries, the first 127 the same,
  -- both ways; and an entry that differs after 126 that are the same.
  pub gauge_two_bytes :
      compare_recordings (volume_string (replicate 127 entry500)) (volume_string (replicate 128 entry500)) ≡ accepted (part.Gauge 637 5)
  pub blender_two_bytes :
      compare_recordings (volume_string (replicate 128 entry500)) (volume_string (replicate 127 entry500)) ≡ accepted (part.Blender 637 5)
  pub after_126_gauge :
      compare_recordings (volume_string (replicate 126 entry500 ++ (entry501 ∷ []))) (volume_string (replicate 128 entry500))
      ≡ accepted (part.Gauge 632 10)
  pub after_126_blender :
      compare_recordings (volume_string (replicate 127 entry500)) (volume_string (replicate 126 entry500 ++ (entry501 ∷ entry500 ∷ [])))
      ≡ accepted (part.Blender 631 5)
  -- Refused: the blender's, the gauge's, and both with different numbers, where the blender's is given; and a byte after the last entry, behind the
  -- first place where the entries differ.
  pub blender_refused : compare_recordings [] (0x00 ∷ []) ≡ refused 16
  pub gauge_refused : compare_recordings (0x00 ∷ []) (0x80 ∷ 0x00 ∷ []) ≡ refused 14
  pub both_refused : compare_recordings (0xD1 ∷ 0x0F ∷ []) (0x80 ∷ 0x00 ∷ []) ≡ refused 15
  pub bytes_after :
      compare_recordings (0x01 ∷ 0x00 ∷ 0x64 ∷ 0x05 ∷ 0x01 ∷ []) (0x01 ∷ 0x00 ∷ 0x64 ∷ 0x04 ∷ 0x01 ∷ 0x00 ∷ []) ≡ refused 16
