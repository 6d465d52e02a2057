-- Every refusal of a call is one of its own numbers, since each line of its conditions has one of them; and a refused call leaves what was there.
-- Assumes nothing.
use mathlib.Core.Bool.{false, not}
use mathlib.Core.List.{List, [], ◌∷◌}
use Prim.Native.Nat.{ℕ, ◌+◌, ◌*◌, ◌%◌}
use lib.Dec.{eqb, leb}
use lib.IntN.{pos, ◌+ℤ◌}
use lib.ListN.{length}
use Rattle.cipher.specs.Numbers.{code_of, area_length, key_length, iv_length}
use Rattle.volume.specs.Volume.{in_range, count_range, entries_in_range, volume_string, entries_of}
use Rattle.volume.specs.Calls.{entries_in, read_volume, read_volume_call, write_volume, write_volume_call}
use Rattle.rates.specs.Calls.{load_rates, load_rates_call}
use Rattle.soundness.specs.Found.{volume_soundness}
use Rattle.soundness.proofs.InVolume.{volume_fits}
use Rattle.duty.specs.Calls.{volume_duty, volume_duty_call}
use Rattle.comparison.specs.Comparison.{compare_recordings, compare_recordings_call}
use Rattle.same_run.specs.SameRun.{same_run, same_run_call}
use Rattle.test_load.specs.TestLoad.{seed_and_count, test_load, test_load_call}
use Rattle.checkpoint.specs.Checkpoint.{length_of}
use Rattle.conditions.specs.Limit.{limit}
use Rattle.conditions.specs.Conditions.{set_up_check, head_check, cipher_check, within, end_of, move_check, undo_at, recover_check, cipher_in, load_check, string_check}
use Rattle.engine.specs.Calls.{head_ready, set_up, set_up_call, cipher, cipher_call, encipher_volume, encipher_volume_call, move, move_call, write, write_call, checkpoint_length, checkpoint_length_call, recover, recover_call, load, load_call, spent, spent_call}
use Rattle.theorems.specs.Demand1.{Demand1}
use Rattle.theorems.proofs.Within.{Within, by_none, first, after, then_line, line_unless, only_unless, first_line, answers, set_up_within, word_within, head_within, found_within, end_within, cipher_within, contents_within, volume_within, rates_within}

abbrev pub same_run_numbers : List ℕ
same_run_numbers = 9 ∷ 1 ∷ 10 ∷ 9 ∷ 10 ∷ 5 ∷ 11 ∷ 12 ∷ 9 ∷ 1 ∷ 10 ∷ 9 ∷ 10 ∷ 5 ∷ 11 ∷ 12 ∷ 23 ∷ []

-- the refusals of a checkpoint's string are among these numbers
pub string_within : {others : List ℕ} (string : List ℕ) → Within (9 ∷ 1 ∷ 10 ∷ 9 ∷ 10 ∷ 5 ∷ 11 ∷ 12 ∷ others) (string_check string)
unfolding string_check
string_within string =
    then_line (cipher_in string) _ (cipher_within string first (after first)) λ c.
    contents_within c string first (after (after first)) (after (after (after (after (after first)))))
    (after (after (after (after (after (after first)))))) (after (after (after (after (after (after (after first)))))))

-- those of two checkpoints
pub same_run_within : (one two : List ℕ) → Within same_run_numbers (same_run one two)
unfolding same_run
same_run_within one two =
    then_line (string_check one) _ (string_within one) λ a.
    then_line (string_check two) _ (string_within two) λ b.
    line_unless 23 (eqb (code_of a.cipher) (code_of b.cipher)) _
    (after (after (after (after (after (after (after (after (after (after (after (after (after (after (after (after first)))))))))))))))) by_none

pub demand1 : Demand1
unfolding set_up_call set_up test_load_call test_load seed_and_count cipher_call cipher cipher_check encipher_volume_call encipher_volume move_call move move_check end_of write_call write checkpoint_length_call checkpoint_length recover_call recover recover_check load_call load load_check spent_call spent write_volume_call write_volume read_volume_call read_volume volume_duty_call volume_duty load_rates_call compare_recordings_call compare_recordings same_run_call
demand1 = record {
  of_set_up = λ h code key iv area.
      answers _ (set_up code key iv area)
      (then_line (set_up_check code (length key) (length iv) (length area)) _
      (set_up_within code (length key) (length iv) (length area) first (after first) (after (after first)) (after (after (after first))))
      (λ c. by_none));
  of_cipher = λ h area bytes.
      answers _ (cipher h area bytes)
      (then_line (cipher_check (head_ready h area) h.position (length bytes)) _
      (then_line (head_ready h area) _
      (word_within h.code h.position h.word area first (after first) (after (after first)) (after (after (after first)))) λ c.
      line_unless 6 (leb (h.position + length bytes) limit) _ (after (after (after (after first)))) by_none)
      (λ c. by_none));
  of_encipher_volume = λ h area volume.
      answers _ (encipher_volume h area volume)
      (first_line (entries_in volume) _ (volume_within first (after first) (after (after first)) volume)
      (then_line (cipher_check (head_ready h area) h.position (length volume)) _
      (then_line (head_ready h area) _
      (word_within h.code h.position h.word area (after (after (after (after first)))) (after (after (after (after (after first)))))
      (after (after (after (after (after (after first)))))) (after (after (after (after (after (after (after first)))))))) λ c.
      line_unless 6 (leb (h.position + length volume) limit) _ (after (after (after (after (after (after (after (after first)))))))) by_none)
      (λ c. by_none)));
  of_move = λ h area d.
      answers _ (move h area d)
      (then_line (move_check (head_ready h area) h.position d) _
      (then_line (head_ready h area) _
      (word_within h.code h.position h.word area first (after first) (after (after first)) (after (after (after first)))) λ c.
      then_line (within (pos h.position +ℤ d)) _
      (end_within (pos h.position +ℤ d) (after (after (after (after first)))) (after (after (after (after (after first)))))) (λ end. by_none))
      (λ m. by_none));
  of_write = λ h area lent.
      answers _ (write h area lent)
      (then_line (head_ready h area) _
      (word_within h.code h.position h.word area first (after first) (after (after first)) (after (after (after first)))) λ c.
      line_unless 8 (leb (length_of c h.position) (length lent)) _ (after (after (after (after first)))) by_none);
  of_checkpoint_length = λ code position.
      answers _ (checkpoint_length code position)
      (then_line (head_check code position) _ (head_within code position first (after first)) λ c. by_none);
  of_recover = λ h area key iv.
      answers _ (recover h area key iv)
      (then_line (recover_check h.code h.position h.word area (length key) (length iv)) _
      (then_line (head_ready h area) _
      (word_within h.code h.position h.word area first (after first) (after (after first)) (after (after (after first)))) λ c.
      line_unless 2 (eqb (length key) (key_length c)) _ (after (after (after (after first))))
      (line_unless 3 (eqb (length iv) (iv_length c)) _ (after (after (after (after (after first)))))
      (found_within (undo_at c area h.position) (after (after (after (after (after (after first)))))))))
      (λ pair. by_none));
  of_load = λ h string area.
      answers _ (load string area)
      (then_line (load_check string (length area)) _
      (then_line (cipher_in string) _ (cipher_within string first (after first)) λ c.
      line_unless 4 (eqb (length area) (area_length c)) _ (after (after first))
      (contents_within c string first (after (after (after first))) (after (after (after (after (after (after first))))))
      (after (after (after (after (after (after (after first))))))) (after (after (after (after (after (after (after (after first))))))))))
      (λ l. by_none));
  of_spent = λ h.
      answers _ (spent h)
      (first_line (head_check h.code h.position) _ (head_within h.code h.position first (after first)) by_none);
  of_test_load = λ h seed count code key iv area.
      answers _ (test_load seed count code key iv area)
      (first_line (seed_and_count seed count) _ (line_unless 17 (not (eqb seed 0)) _ first (only_unless 18 (leb count 1000) (after first)))
      (then_line (set_up code key iv area) _
      (then_line (set_up_check code (length key) (length iv) (length area)) _
      (set_up_within code (length key) (length iv) (length area) (after (after first)) (after (after (after first))) (after (after (after (after first))))
      (after (after (after (after (after first))))))
      (λ c. by_none))
      (λ e. by_none)));
  of_write_volume = λ list lent.
      answers _ (write_volume list lent)
      (line_unless 16 (eqb (length list % 4) 0) _ first
      (line_unless 15 (in_range count_range (length (entries_of list))) _ (after first)
      (line_unless 15 (entries_in_range (entries_of list)) _ (after (after first))
      (line_unless 8 (leb (length (volume_string (entries_of list))) (length lent)) _ (after (after (after first))) by_none))));
  of_read_volume = λ string list.
      answers _ (read_volume string list)
      (then_line (entries_in string) _ (volume_within first (after first) (after (after first)) string) λ entries.
      line_unless 8 (leb (4 * length entries) (length list)) _ (after (after (after (after first)))) by_none);
  of_volume_duty = λ rates string.
      answers _ (volume_duty rates string)
      (then_line (entries_in string) _ (volume_within first (after first) (after (after first)) string) λ entries. by_none);
  of_load_rates = λ inUse string. answers inUse (load_rates string) (rates_within first (after first) string);
  of_volume_soundness = λ string bytes. (volume_soundness string, volume_fits string bytes);
  of_compare_recordings = λ blender gauge.
      answers _ (compare_recordings blender gauge)
      (then_line (entries_in blender) _ (volume_within first (after first) (after (after first)) blender) λ blenders.
      then_line (entries_in gauge) _ (volume_within first (after first) (after (after first)) gauge) λ gauges. by_none);
  of_same_run = λ one two. answers false (same_run one two) (same_run_within one two);
}
