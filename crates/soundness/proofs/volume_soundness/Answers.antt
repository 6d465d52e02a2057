-- `soundness::volume_soundness` meets its contract: the answer that it works out is `volume_soundness`, which fits the string.
use Rattle.std.proofs.Common.{sym, ◌∙◌, arith}
use Rattle.soundness.proofs.InVolume.{volume_fits}
use Rattle.soundness.proofs.Places.{in_count, in_entries}
use Rattle.soundness.proofs.volume_soundness.Goals as goal

pub returns-in-Ok : goal.returns-in-Ok
returns-in-Ok c =
    let s = c.args.string.now in
    rw (c.entries_soundness.ensures ∙ sym (in_entries s _ (sym c.in-Ok.ensures.value)))
    (volume_fits s (λ i. let b = c.type_inv.string i in omega arith))

pub returns-in-Err : goal.returns-in-Err
returns-in-Err c =
    let s = c.args.string.now in
    rw (c.number_soundness.ensures ∙ sym (in_count s (sym c.in-Err.ensures.value)))
    (volume_fits s (λ i. let b = c.type_inv.string i in omega arith))
