-- HC-128's changes at steps whose numbers agree modulo 1,024 are the same.
use Rattle.word.specs.Word.{◌⊞◌, ◌⊟◌, ◌⊕◌}
use Rattle.cipher.specs.declared.Cipher.TheVariants.{Hc128}
use Rattle.tables.proofs.Turns.{same_change}
use Rattle.runs.specs.Change.{ByPlace}
use Rattle.last_pass.specs.LastPass.{change, change_back}

pub changes_by_place : ByPlace Hc128 (change Hc128) (change_back Hc128)
unfolding change change_back
changes_by_place = record {
  forth_same = λ s i m e. same_change Hc128 s i m e (λ w d h. (w ⊞ d) ⊕ h);
  back_same = λ s i m e. same_change Hc128 s i m e (λ w d h. (w ⊕ h) ⊟ d);
}
