-- The loop of `volume::writing::measure_entries` keeps `Measured`.
use Rattle.std.proofs.Common.{◌≡◌, ◌+◌, ◌*◌, ◌≤◌, length}
use Rattle.std.specs.Slice.Iter.{chunks_exact_size, chunks_exact_rest}
use Rattle.volume.proofs.Measuring.{Measured}
use Rattle.volume.proofs.writing.measure_entries.Given as goal

abbrev pub invariant-loop-numbers : goal.invariant-loop-numbers
invariant-loop-numbers l =
    let rest = chunks_exact_rest l.numbers-iterator in
    (chunks_exact_size l.numbers-iterator ≡ 4)
    × (l.length + 10 * length rest ≤ 10 * length l.list)
    × Measured l.list rest l.length
