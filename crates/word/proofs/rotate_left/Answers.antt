-- std's rotation is that of the definition.
use Rattle.std.proofs.Common.{◌∙◌}
use Rattle.word.proofs.Rotations.{rotate_left_is}
use Rattle.word.proofs.rotate_left.Goals as goal

pub returns : goal.returns
returns c = c.rotate_left.ensures ∙ rotate_left_is c.args.x c.args.n c.ranges.x.fits c.requires.0 c.requires.1
