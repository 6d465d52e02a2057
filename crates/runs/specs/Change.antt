-- A change of A[j] at numbered steps: it goes by the place of A[j] alone, as the steps of a cipher do.
use Rattle.std.specs.Prelude.{◌≡◌, List, ℕ, ◌%◌}
use Rattle.cipher.specs.declared.Cipher.{Cipher}
use Rattle.cipher.specs.Numbers.{area_length}
use Rattle.tables.specs.Step.{step, step_back}
use Rattle.tables.proofs.Turns.{same_step, same_step_back}

-- what is made, and what undoes it, at steps whose places of A[j] are the same
pub record ByPlace (c : Cipher) (forth back : List ℕ → ℕ → List ℕ) : Type 0 where
  pub forth_same : (s : List ℕ) (i m : ℕ) → i % area_length c ≡ m % area_length c → forth s i ≡ forth s m
  pub back_same : (s : List ℕ) (i m : ℕ) → i % area_length c ≡ m % area_length c → back s i ≡ back s m

pub steps_by_place : (c : Cipher) → ByPlace c (step c) (step_back c)
steps_by_place c = record { forth_same = same_step c; back_same = same_step_back c }
