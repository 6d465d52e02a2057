-- Document 02 (k), 'as part of the buffer it came in': the slice that a part is, where it begins in memory and its bytes.
use Rattle.std.specs.Prelude.{List, ℕ, ◌+◌, take, drop}
use Rattle.std.specs.Borrow.{Bor}
use Rattle.comparison.specs.declared.Part.{Part}
use Rattle.comparison.specs.declared.Part.TheVariants as part

-- a slice: where it begins in memory, a block and a place in it, also where it is empty; and its bytes
pub record Slice : Type 0 where
  pub begins : ℕ × ℕ
  pub bytes : List ℕ

-- the slice that a reference points to
abbrev pub slice_of : Bor (List ℕ) → Slice
slice_of s = record { begins = s.ref_ptr; bytes = s.now }

-- n bytes of a buffer, from byte `from` on
abbrev pub part_of : (buffer : Bor (List ℕ)) (from n : ℕ) → Slice
part_of buffer from n = record { begins = (buffer.ref_ptr.0, from + buffer.ref_ptr.1); bytes = take n (drop from buffer.now) }

-- a part, of the buffer that it names
abbrev pub slice_in : (blender gauge : Bor (List ℕ)) → Part → Slice
slice_in blender gauge (part.Blender from n) = part_of blender from n
slice_in blender gauge (part.Gauge from n) = part_of gauge from n
