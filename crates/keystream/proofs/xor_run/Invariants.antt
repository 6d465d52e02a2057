-- The loops' invariants: the words of 4 m steps are done, and the five are carried as often; of four steps more, q are done.
use Rattle.std.proofs.Common.{◌+◌, ◌*◌}
use Rattle.keystream.proofs.Runs.{Run}
use Rattle.keystream.proofs.xor_run.Given as goal

abbrev pub invariant-loop-q : goal.invariant-loop-q
invariant-loop-q l =
    Run l.cipher l.p l.initial.next.five l.initial.area l.initial.bytes (l.start + 4 * (4 * l.m)) 4 l.initial.next.last l.area l.bytes l.next.five l.next.last l.q

abbrev pub invariant-loop-m : goal.invariant-loop-m
invariant-loop-m l =
    Run l.cipher l.p l.initial.next.five l.initial.area l.initial.bytes l.start l.n l.initial.next.last l.area l.bytes l.next.five l.next.last (4 * l.m)
