-- The two strings are of one cipher, and what each leads back to are sixteen words.
use Rattle.std.proofs.Common.{◌≡◌, ℕ, length, get_or, sym, ap, ◌∙◌, Fits, w32, rules}
use denote.Enum.Bare.{differs_false}
use Rattle.laws.specs.Result.{accepted}
use Rattle.cipher.specs.contracts.Cipher.{the_type}
use Rattle.same_run.proofs.Runs.{answered, same_origins}
use Rattle.same_run.proofs.same_run.Goals as goal

pub returns : goal.returns
returns c =
    let a = c.in_ok-a.a in
    let b = c.in_ok-b.b in
    let (l, x, g) = c.in_ok-a.ensures in
    let (m, y, h) = c.in_ok-b.ensures in
    let one : b.cipher ≡ a.cipher = sym (differs_false the_type (search rules) a.cipher b.cipher (sym c.if-ne.ensures)) in
    let a_long : length a.words ≡ 16 = search rules in
    let b_long : length b.words ≡ 16 = search rules in
    let a_fits : (k : ℕ) → Fits w32 (get_or a.words k 0) = λ k. search rules in
    let b_fits : (k : ℕ) → Fits w32 (get_or b.words k 0) = λ k. search rules in
    ap accepted (c.eq.ensures ∙ same_origins a b l m g h one a_long b_long (λ k. (a_fits k).fits) (λ k. (b_fits k).fits))
    ∙ sym (answered a b l m g h one c.args.first.now c.args.second.now x y)
