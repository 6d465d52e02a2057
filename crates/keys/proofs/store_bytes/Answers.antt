-- The stored bytes are those of the words, since the loop ends at the length of `out`.
use Rattle.std.proofs.Common.{◌≡◌, ◌/◌, ◌%◌, length, take, arith, sym, ap, ◌∙◌, length-take-le, get_or-take}
use Rattle.word.specs.Bytes.{byte}
use Rattle.word.proofs.Bytes.{bytes_are}
use Rattle.keys.proofs.store_bytes.Goals as goal

pub returns : goal.returns
returns c =
    let n = length c.args.out.now / 4 in
    let w = c.args.words.now in
    let p : length (take n w) ≡ n = length-take-le n w (omega arith) in
    bytes_are c.loop-j.out (take n w) (omega arith)
    (λ j r. c.loop-j.invariant j (omega arith) ∙ sym (ap (byte (j % 4)) (get_or-take n w (j / 4) 0 (omega arith))))
