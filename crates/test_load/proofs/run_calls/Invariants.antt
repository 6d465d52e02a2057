-- The loop keeps that head and area are those after the calls of the words so far.
use Rattle.engine.specs.Calls.{engine_of}
use Rattle.test_load.proofs.Loads.{Runs}
use Rattle.test_load.proofs.run_calls.Given as goal

abbrev pub invariant-loop : goal.invariant-loop
invariant-loop l = Runs l.seed l.count (engine_of l.fn.head l.fn.area) l.counter l.word (engine_of l.head l.area)
