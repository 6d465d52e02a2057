-- The bytes that are lent are n zeros.
use Rattle.std.proofs.lemmas.List.{take-replicate}
use Rattle.test_load.proofs.Loads.{ran_cipher}
use Rattle.test_load.proofs.cipher_zeros.Goals as goal

pub returns : goal.returns
returns c =
    let a = c.args in
    ran_cipher a.head a.area.now _ a.n _ c.cipher.ensures (take-replicate a.n 256 0 c.requires)
