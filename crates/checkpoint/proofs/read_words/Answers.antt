-- After the loop each word of the area is that of the string.
use Rattle.std.proofs.Common.{arith}
use Rattle.checkpoint.proofs.Words.{all_read}
use Rattle.checkpoint.proofs.read_words.Goals as goal

pub returns : goal.returns
returns c = all_read c.args.string.now c.loop-j.area c.args.from (omega arith) c.loop-j.j (omega arith) c.loop-j.invariant
