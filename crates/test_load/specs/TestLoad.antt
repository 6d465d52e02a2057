-- Document 02 (h), a test load that can be repeated, as a definition of its inputs: the result, which is the refusal or the engine that the load
-- leaves, and the outcome.
use Rattle.std.specs.Prelude.{not, List, [], ◌∷◌, ℕ, eqb, leb, replicate}
use Rattle.laws.specs.Result.{Result, accepted, Outcome, outcome, ◌>>=◌, ◌>>◌, refuse◌unless◌}
use Rattle.engine.specs.declared.Head.{Head}
use Rattle.engine.specs.Calls.{Engine, engine_of, set_up, cipher_call}
use Rattle.move_to.specs.MoveTo.{move_to}
use Rattle.test_load.specs.Words.{GeneratedCall, move_to_byte, cipher_zeros, generated_calls}

-- what a generated call leaves: it is the engine's move, by whatever signed distance leads to the byte, or its cipher call over zero bytes
unfoldable pub run_call : GeneratedCall → Engine → Engine
run_call (move_to_byte byte) e = (move_to byte e).value
run_call (cipher_zeros n) e = (cipher_call e.head e.area (replicate n 0)).value.engine

-- the calls one after the other, each on what the one before it left
unfoldable pub run_calls : List GeneratedCall → Engine → Engine
run_calls [] e = e
run_calls (call ∷ calls) e = run_calls calls (run_call call e)

-- 17: a seed of 0. 18: a count over 1,000.
unfoldable pub seed_and_count : (seed count : ℕ) → Result (Unit {0})
seed_and_count seed count = do
  refuse 17 unless not (eqb seed 0)
  refuse 18 unless leb count 1000

-- **Test load** 'sets the engine up itself and runs 0 to 1,000 such calls'. It refuses with 17 and 18, 'both before the refusals of set-up': 1, 2, 3, 4.
-- That no generated call is refused is `each_accepted` of TestLoad in theorems/specs.
unfoldable pub test_load : (seed count code : ℕ) (key iv area : List ℕ) → Result Engine
test_load seed count code key iv area = do
  seed_and_count seed count
  e ← set_up code key iv area
  accepted (run_calls (generated_calls seed count) e)

unfoldable pub test_load_call : (head : Head) (seed count code : ℕ) (key iv area : List ℕ) → Outcome Engine
test_load_call h seed count code key iv area = outcome (engine_of h area) (test_load seed count code key iv area)
