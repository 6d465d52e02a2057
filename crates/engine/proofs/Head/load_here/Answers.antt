-- Area and head are filled where every condition holds.
use Rattle.std.proofs.Common.{◌≡◌, ℕ, Ok, sym, length, get_or, drop, arith, rules, Fits, w32}
use Rattle.word.specs.Bytes.{words}
use Rattle.recovery.specs.Recovery.{found_at}
use Rattle.engine.proofs.Calls.{load_done, key_words, iv_words}
use Rattle.engine.proofs.Head.load_here.Goals as goal

pub returns : goal.returns
returns c =
    let b = c.in_ok-cipher.field-0 in
    let w = c.in-Ok.words in
    let sixteen : length w ≡ 16 = search rules in
    let words_fit : (k : ℕ) → Fits w32 (get_or w k 0) = λ k. search rules in
    let found : found_at b.cipher (words (drop b.next c.args.string.now)) b.position ≡ Ok w = grind arith in
    load_done _ _ _ _ _ _ (sym c.in_ok-cipher.ensures.answer) _ _ _ _ w _ found (rw c.code.ensures at c.at.ensures) c.read_words.ensures c.word_at-word.ensures
    (key_words _ w (λ k. (words_fit k).fits) sixteen _ _ c.key_bytes.ensures.0 c.eight_words.ensures)
    (iv_words _ w (λ k. (words_fit k).fits) sixteen _ _ c.iv_bytes.ensures.0 c.eight_words-2.ensures)
