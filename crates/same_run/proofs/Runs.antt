-- Two strings of one cipher have the same key and IV exactly where their sixteen words are the same. Assumes nothing.
use mathlib.Core.Path.{◌≡◌, sym, ap, ◌∙◌}
use mathlib.Core.List.{List}
use Prim.Native.Nat.{ℕ}
use borrow.Author.Tests.{eq-eqb}
use lib.Dec.{eqb}
use lib.ListN.{length}
use lib.Pointwise.{pointwise}
use Rattle.laws.specs.Result.{accepted}
use Rattle.word.specs.Bytes.{AllWords}
use Rattle.cipher.specs.Numbers.{code_of}
use Rattle.conditions.specs.Conditions.{Contents, string_check}
use Rattle.same_run.specs.declared.Origin.{Origin}
use Rattle.same_run.specs.Found.{OriginOf}
use Rattle.same_run.specs.SameRun.{same_key_and_iv, same_run}
use Rattle.same_run.proofs.Origins.{words_equal}

module _ (a b : Origin) (l m : Contents) (g : OriginOf a l) (h : OriginOf b m) (c : b.cipher ≡ a.cipher) where
  pub same_origins : length a.words ≡ 16 → length b.words ≡ 16 → AllWords a.words → AllWords b.words
      → pointwise eqb a.words b.words ≡ same_key_and_iv l m
  same_origins a-long b-long a-ok b-ok =
      words_equal a.cipher a.words b.words a-long b-long a-ok b-ok g.doubled_is (rw c at h.doubled_is)
      ∙ rw (g.key_is, g.iv_is, h.key_is, h.iv_is, c)

  pub answered : (first second : List ℕ) → string_check first ≡ accepted l → string_check second ≡ accepted m
      → same_run first second ≡ accepted (same_key_and_iv l m)
  unfolding same_run
  answered first second x y =
      let e : code_of l.cipher ≡ code_of m.cipher = ap code_of (g.cipher_is_lem ∙ sym c ∙ sym h.cipher_is_lem) in
      rw (x, y, eq-eqb (code_of l.cipher) (code_of m.cipher) e)
