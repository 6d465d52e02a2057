-- `comparison::check_recordings` meets its contract: the blender's recording is checked first.
use Rattle.std.proofs.lemmas.Result.{err_from_is_err_and}
use Rattle.comparison.proofs.Answers.{number_first, number_second}
use Rattle.comparison.proofs.check_recordings.Goals as goal

pub returns-in_err-check_volume : goal.returns-in_err-check_volume
returns-in_err-check_volume c =
    let p = err_from_is_err_and c.from_residual.result c.from_residual.ensures.1 in
    rw (p.1, p.2) (number_first c.args.blender.now c.args.gauge.now _ c.in_err-check_volume.ensures)

pub returns : goal.returns
returns c =
    number_second c.args.blender.now c.args.gauge.now _ c.in_ok-check_volume.ensures c.check_volume-2.ensures
