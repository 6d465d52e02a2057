-- The bytes that were read are no more than the buffer has.
use Rattle.std.proofs.Common.{◌≤◌, length}
use Rattle.hullerbamboo.proofs.files.fill.Given as goal

abbrev pub invariant-loop : goal.invariant-loop
invariant-loop g l = l.n ≤ length l.buffer
