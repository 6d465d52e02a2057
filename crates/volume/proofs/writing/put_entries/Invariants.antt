-- The loop of `volume::writing::put_entries` keeps `Put`.
use Rattle.std.proofs.Common.{◌≡◌}
use Rattle.std.specs.Slice.Iter.{chunks_exact_size, chunks_exact_rest}
use Rattle.volume.proofs.Measuring.{Put}
use Rattle.volume.proofs.writing.put_entries.Given as goal

abbrev pub invariant-loop-numbers : goal.invariant-loop-numbers
invariant-loop-numbers l =
    (chunks_exact_size l.numbers-iterator ≡ 4)
    × Put l.list l.initial.lent l.first (chunks_exact_rest l.numbers-iterator) l.at l.lent
