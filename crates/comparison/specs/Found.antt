-- The part as the code finds it, entry by entry. Only contracts below the calls cite it.
use Rattle.std.specs.Prelude.{◌≡◌, cond, List, [], ◌∷◌, ℕ, ◌-◌, ltb, length, drop}
use Rattle.laws.specs.Result.{accepted}
use Rattle.volume.specs.declared.Entry.{Entry}
use Rattle.volume.specs.Volume.{entries_string}
use Rattle.volume.specs.Calls.{read_entries}
use Rattle.comparison.specs.declared.Part.{Part}
use Rattle.comparison.specs.declared.Part.TheVariants as part
use Rattle.comparison.specs.Comparison.{same_entry}

-- the bytes of a recording from a place to its end
abbrev pub blender_rest : (bytes at : ℕ) → Part
blender_rest bytes at = part.Blender at (bytes - at)

abbrev pub gauge_rest : (bytes at : ℕ) → Part
gauge_rest bytes at = part.Gauge at (bytes - at)

-- where the last entries of so many bytes begin
abbrev pub last_entries : (bytes : ℕ) → List Entry → ℕ
last_entries bytes entries = bytes - length (entries_string entries)

-- the part handed back of two recordings of so many bytes, whose last entries are these
unfoldable pub part_of_last : (blenderBytes gaugeBytes : ℕ) (blenders gauges : List Entry) → Part
part_of_last n m [] [] = blender_rest n (last_entries n [])
part_of_last n m (b ∷ blenders) [] = blender_rest n (last_entries n (b ∷ blenders))
part_of_last n m [] (g ∷ gauges) = gauge_rest m (last_entries m (g ∷ gauges))
part_of_last n m (b ∷ blenders) (g ∷ gauges) =
    cond (same_entry b g) (part_of_last n m blenders gauges)
    (cond (ltb g.ratio b.ratio) (gauge_rest m (last_entries m (g ∷ gauges))) (blender_rest n (last_entries n (b ∷ blenders))))

-- n entries stand from a place on, and nothing after them
abbrev pub Last : (string : List ℕ) (at n : ℕ) → List Entry → Type 0
Last string at n entries = read_entries n (drop at string) ≡ accepted (record { entries = entries; rest = [] })

-- the part handed back of two recordings, with so many entries that begin at these places
abbrev pub PartIs : (blender : List ℕ) (blenderFirst n : ℕ) (gauge : List ℕ) (gaugeFirst m : ℕ) → Part → Type 0
PartIs blender blenderFirst n gauge gaugeFirst m r =
    (blenders gauges : List Entry) → Last blender blenderFirst n blenders → Last gauge gaugeFirst m gauges
    → r ≡ part_of_last (length blender) (length gauge) blenders gauges
