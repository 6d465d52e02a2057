-- `soundness::entry_soundness` meets its contract: the first of the four numbers that is refused.
use Rattle.std.proofs.Common.{sym}
use Rattle.soundness.specs.Found.{entry_soundness}
use Rattle.soundness.proofs.entry_soundness.Goals as goal

pub returns-in_default : goal.returns-in_default
unfolding entry_soundness
returns-in_default c = rw (sym c.in_default.ensures.value) c.number_soundness.ensures

pub returns-in_default-read_value : goal.returns-in_default-read_value
unfolding entry_soundness
returns-in_default-read_value c =
    rw (sym c.in-Ok.ensures.value, sym c.in_default-read_value.ensures.value) c.number_soundness-in_default-read_value.ensures

pub returns-in_default-read_value-2 : goal.returns-in_default-read_value-2
unfolding entry_soundness
returns-in_default-read_value-2 c =
    rw (sym c.in-Ok.ensures.value, sym c.in-Ok-read_value.ensures.value, sym c.in_default-read_value-2.ensures.value)
    c.number_soundness-in_default-read_value-2.ensures

pub returns : goal.returns
unfolding entry_soundness
returns c =
    rw (sym c.in-Ok.ensures.value, sym c.in-Ok-read_value.ensures.value, sym c.in-Ok-read_value-2.ensures.value)
    c.number_soundness-2.ensures
