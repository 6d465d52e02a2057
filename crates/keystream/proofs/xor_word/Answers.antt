-- Four stores are the part of four bytes.
use Rattle.std.proofs.Common.{refl, add-zero}
use Rattle.laws.specs.Iterate.{forward}
use Rattle.keystream.proofs.xor_word.Goals as goal

pub returns : goal.returns
unfolding forward
returns c = rw (c.to_bytes.ensures, add-zero c.args.start) refl
