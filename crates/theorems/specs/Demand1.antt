-- Demand 1: every call, for all bytes, lengths, positions and tables, is accepted with 0, or answers one of its own refusal numbers and leaves
-- head, tables, the table of rates in use and every lent byte as they were. Volume soundness has no refusals, and its answer is no refusal number. Of
-- two recordings one call answers the number, and another hands back the part.
use Rattle.std.specs.Prelude.{◌≡◌, false, ◌⊎◌, ℕ, ℤ, replicate}
use mathlib.Core.List.{List, [], ◌∷◌, Memᴰ}
use Rattle.volume.specs.Calls.{read_volume, read_volume_call, write_volume, write_volume_call}
use Rattle.rates.specs.Calls.{load_rates, load_rates_call}
use Rattle.duty.specs.Calls.{volume_duty, volume_duty_call}
use Rattle.soundness.specs.declared.Soundness.{Soundness}
use Rattle.soundness.specs.Soundness.{Fits}
use Rattle.comparison.specs.declared.Part.TheVariants as part
use Rattle.comparison.specs.Comparison.{compare_recordings, compare_recordings_call}
use Rattle.same_run.specs.SameRun.{same_run, same_run_call}
use Rattle.test_load.specs.TestLoad.{test_load, test_load_call}
use Rattle.laws.specs.Result.{Result, refused, accepted, Outcome}
use Rattle.word.specs.Bytes.{AllBytes}
use Rattle.engine.specs.declared.Head.{Head}
use Rattle.engine.specs.Calls.{engine_of, set_up, cipher, encipher_volume, move, write, checkpoint_length, recover, load, spent}
use Rattle.engine.specs.Calls.{set_up_call, cipher_call, encipher_volume_call, move_call, write_call, checkpoint_length_call, recover_call, load_call, spent_call}

module _ {A : Type 0} where
  -- the call is accepted: its refusal is 0, and what it leaves is what its result gives
  pub record Accepted (result : Result A) (o : Outcome A) : Type 0 where
    pub new : A
    pub result_is : result ≡ accepted new
    pub outcome_is : o ≡ record { refusal = 0; value = new }

  -- the call is refused: its refusal is one of these numbers, and what it leaves is `old`: head, area, table of rates in use and lent bytes as they
  -- were, and 0 for what the call returns, or the empty beginning of the blender's buffer, or the answer no
  pub record Refused (numbers : List ℕ) (old : A) (result : Result A) (o : Outcome A) : Type 0 where
    pub number : ℕ
    pub one_of : Memᴰ number numbers
    pub result_is : result ≡ refused number
    pub outcome_is : o ≡ record { refusal = number; value = old }

  abbrev pub AcceptedOrRefused : (numbers : List ℕ) (old : A) (result : Result A) → Outcome A → Type 0
  AcceptedOrRefused numbers old result o = Accepted result o ⊎ Refused numbers old result o

-- Each call with its refusals in the documents' order, and with what it leaves where it is refused.
pub record Demand1 : Type 0 where
  pub of_set_up :
      (h : Head) (code : ℕ) (key iv area : List ℕ)
      → AcceptedOrRefused (1 ∷ 2 ∷ 3 ∷ 4 ∷ []) (engine_of h area) (set_up code key iv area) (set_up_call h code key iv area)
  pub of_cipher :
      (h : Head) (area bytes : List ℕ)
      → AcceptedOrRefused (1 ∷ 4 ∷ 5 ∷ 13 ∷ 6 ∷ []) (record { engine = engine_of h area; bytes = bytes })
      (cipher h area bytes) (cipher_call h area bytes)
  pub of_encipher_volume :
      (h : Head) (area volume : List ℕ)
      → AcceptedOrRefused (16 ∷ 14 ∷ 15 ∷ 16 ∷ 1 ∷ 4 ∷ 5 ∷ 13 ∷ 6 ∷ []) (record { engine = engine_of h area; bytes = volume })
      (encipher_volume h area volume) (encipher_volume_call h area volume)
  pub of_move :
      (h : Head) (area : List ℕ) (distance : ℤ)
      → AcceptedOrRefused (1 ∷ 4 ∷ 5 ∷ 13 ∷ 7 ∷ 6 ∷ []) (engine_of h area) (move h area distance) (move_call h area distance)
  pub of_write :
      (h : Head) (area lent : List ℕ)
      → AcceptedOrRefused (1 ∷ 4 ∷ 5 ∷ 13 ∷ 8 ∷ []) (record { engine = engine_of h area; length = 0; lent = lent })
      (write h area lent) (write_call h area lent)
  pub of_checkpoint_length :
      (code position : ℕ) → AcceptedOrRefused (1 ∷ 5 ∷ []) 0 (checkpoint_length code position) (checkpoint_length_call code position)
  pub of_recover :
      (h : Head) (area key iv : List ℕ)
      → AcceptedOrRefused (1 ∷ 4 ∷ 5 ∷ 13 ∷ 2 ∷ 3 ∷ 12 ∷ []) (record { engine = engine_of h area; key = key; iv = iv })
      (recover h area key iv) (recover_call h area key iv)
  pub of_load :
      (h : Head) (string area : List ℕ)
      → AcceptedOrRefused (9 ∷ 1 ∷ 4 ∷ 10 ∷ 9 ∷ 10 ∷ 5 ∷ 11 ∷ 12 ∷ [])
      (record { engine = engine_of h area; key = replicate 8 0; iv = replicate 8 0 }) (load string area) (load_call h string area)
  pub of_spent : (h : Head) → AcceptedOrRefused (1 ∷ 5 ∷ []) (record { head = h; count = 0 }) (spent h) (spent_call h)
  pub of_test_load :
      (h : Head) (seed count code : ℕ) (key iv area : List ℕ)
      → AcceptedOrRefused (17 ∷ 18 ∷ 1 ∷ 2 ∷ 3 ∷ 4 ∷ []) (engine_of h area)
      (test_load seed count code key iv area) (test_load_call h seed count code key iv area)
  pub of_write_volume :
      (list lent : List ℕ)
      → AcceptedOrRefused (16 ∷ 15 ∷ 15 ∷ 8 ∷ []) (record { length = 0; lent = lent }) (write_volume list lent) (write_volume_call list lent)
  pub of_read_volume :
      (string list : List ℕ)
      → AcceptedOrRefused (16 ∷ 14 ∷ 15 ∷ 16 ∷ 8 ∷ []) (record { count = 0; list = list }) (read_volume string list) (read_volume_call string list)
  pub of_volume_duty :
      (rates string : List ℕ) → AcceptedOrRefused (16 ∷ 14 ∷ 15 ∷ 16 ∷ []) 0 (volume_duty rates string) (volume_duty_call rates string)
  pub of_load_rates :
      (inUse string : List ℕ) → AcceptedOrRefused (24 ∷ 25 ∷ 24 ∷ []) inUse (load_rates string) (load_rates_call inUse string)
  -- Volume soundness has no refusals: for every string of bytes there is an answer that fits. No other does: `one_answer` of WhereHopeless.
  pub of_volume_soundness : (string : List ℕ) → AllBytes string → (s : Soundness) × Fits string s
  -- Of the outcome of two recordings one call gives the refusal, and the other the part: the empty beginning of the blender's buffer where the pair
  -- is refused.
  pub of_compare_recordings :
      (blender gauge : List ℕ)
      → AcceptedOrRefused (16 ∷ 14 ∷ 15 ∷ 16 ∷ 16 ∷ 14 ∷ 15 ∷ 16 ∷ []) (part.Blender 0 0)
      (compare_recordings blender gauge) (compare_recordings_call blender gauge)
  -- Of two checkpoints: load's refusals of the first but for 4, then those of the second, then 23; beside a refusal the answer is no.
  pub of_same_run :
      (first second : List ℕ)
      → AcceptedOrRefused (9 ∷ 1 ∷ 10 ∷ 9 ∷ 10 ∷ 5 ∷ 11 ∷ 12 ∷ 9 ∷ 1 ∷ 10 ∷ 9 ∷ 10 ∷ 5 ∷ 11 ∷ 12 ∷ 23 ∷ []) false
      (same_run first second) (same_run_call first second)
