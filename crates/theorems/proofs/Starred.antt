-- The starred examples hold, by computation. Assumes nothing.
use mathlib.Core.Path.{refl}
use Rattle.word.specs.Word.{f1, f2}
use Rattle.word.specs.Bytes.{words}
use Rattle.varint.specs.Number.{groups, number}
use Rattle.schedule.specs.Expansion.{next_word, expansion}
use Rattle.keys.specs.Key.{sixteen}
use Rattle.theorems.specs.Starred.{Starred, examples, zero_expansion}

pub starred : Starred
unfolding Starred examples zero_expansion f1 f2 words next_word expansion sixteen groups number
starred = (refl, (refl, (refl, (refl, (refl, (refl, (refl, (refl, (refl, (refl, (refl, (refl, tt))))))))))))
