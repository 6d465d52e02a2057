-- std's rotation is that of the definition.
use Rattle.std.proofs.Common.{◌∙◌}
use Rattle.word.proofs.Rotations.{rotate_right_is}
use Rattle.word.proofs.rotate_right.Goals as goal

pub returns : goal.returns
returns c = c.rotate_right.ensures ∙ rotate_right_is c.args.x c.args.n c.ranges.x.fits c.requires.0 c.requires.1
