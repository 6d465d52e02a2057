-- The three exclusive ors are those of the definition.
use Rattle.std.proofs.Common.{refl}
use Rattle.test_load.specs.Words.{next_word}
use Rattle.test_load.proofs.next_word.Goals as goal

pub returns : goal.returns
unfolding next_word
returns c = refl
