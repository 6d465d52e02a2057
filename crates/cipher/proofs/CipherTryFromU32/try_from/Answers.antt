-- The tests on the code are those of its definition.
use Rattle.std.proofs.Common.{rules, eq-eqb, ◌≡◌}
use borrow.Author.Tests.{ne_eqb}
use Rattle.cipher.specs.Numbers.{by_code}
use Rattle.cipher.proofs.CipherTryFromU32.try_from.Goals as goal

pub returns-then-code : goal.returns-then-code
unfolding by_code
returns-then-code c = rw (eq-eqb c.args.code 1 (let p = c.if-code.true in let q = c.code.ensures in cc))

pub returns-then-code-2 : goal.returns-then-code-2
unfolding by_code
returns-then-code-2 c =
    rw (
      ne_eqb c.args.code 1 (λ e. c.if-code.false (let q = c.code.ensures in cc)),
      eq-eqb c.args.code 2 (let p = c.if-code-2.true in let q = c.code-else-code.ensures in cc),
    )

pub returns-else-code-2 : goal.returns-else-code-2
unfolding by_code
returns-else-code-2 c =
    rw (
      ne_eqb c.args.code 1 (λ e. c.if-code.false (let q = c.code.ensures in cc)),
      ne_eqb c.args.code 2 (λ e. c.if-code-2.false (let q = c.code-else-code.ensures in cc)),
    )
