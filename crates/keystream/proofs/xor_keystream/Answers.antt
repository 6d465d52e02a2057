-- Its three calls are the parts of `Whole`.
use Rattle.std.proofs.Common.{arith, refl, sym, ap, ◌∙◌}
use Rattle.laws.proofs.Iterate.{forward_none}
use Rattle.carried.proofs.Steps.{five_within}
use Rattle.steps.specs.Steps.{steps_at, last_output}
use Rattle.keystream.proofs.Numbered.{words_numbered, begun_numbered, last_number}
use Rattle.keystream.proofs.Whole.{whole}
use Rattle.keystream.proofs.xor_keystream.Goals as goal

-- no bytes are left after the word that p is inside
pub returns-then-left-eq0 : goal.returns-then-left-eq0
returns-then-left-eq0 c =
    let ended = c.finish_word-start in
    whole {i = steps_at c.args.p} {n = 0} {t = 0} (record {
      word = c.requires.2;
      ended = ended.ensures.0;
      ended_bytes = ended.ensures.1;
      ended_sized = ended.auto.bytes;
      first = refl;
      count = omega (arith, c.if-left-eq0.true);
      rest = omega (arith, c.if-left-eq0.true);
      words_tables = sym (forward_none _ _ _);
      words_bytes = sym (forward_none _ _ 0);
      words_sized = refl;
      begun_tables = sym (forward_none _ _ _);
      begun_bytes = sym (forward_none _ _ 0);
      begun_word = c.requires.2 ∙ ap (last_output _ _) (omega arith);
    })

pub begin_word-requires : goal.begin_word-requires
begin_word-requires c =
    let worded = c.xor_words-next in (
      worded.auto.area ∙ c.requires.0,
      five_within c.args.cipher _ _ worded.ensures.1,
      omega arith,
      omega (arith, worded.auto.bytes),
    )

pub returns : goal.returns
returns c =
    let cipher = c.args.cipher in
    let ended = c.finish_word-start in
    let counted = c.steps_at-i in
    let worded = c.xor_words-next in
    let begun = c.begin_word in
    let words = words_numbered cipher _ _ _ _ _ _ worded.ensures.0 in
    let last = begun_numbered cipher worded.new.area worded.new.bytes _ _ _ _ worded.ensures.1 (omega arith) begun.ensures in
    whole (record {
      word = c.requires.2;
      ended = ended.ensures.0;
      ended_bytes = ended.ensures.1;
      ended_sized = ended.auto.bytes;
      first = counted.ensures;
      count = refl;
      rest = refl;
      words_tables = words.0;
      words_bytes = words.1;
      words_sized = worded.auto.bytes;
      begun_tables = last.0;
      begun_bytes = last.1;
      begun_word =
          last.2
          ∙ last_number cipher _ _ _ _ _
          (words.2 ∙ last_number cipher _ _ _ _ _ (c.requires.2 ∙ ap (last_output _ _) (sym counted.ensures)) words.0)
          last.0;
    })
