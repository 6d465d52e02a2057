-- What an accepted write shows, and when a write is accepted. Assumes nothing.
use mathlib.Core.Path.{◌≡◌, refl, sym, ap, ◌∙◌, subst}
use mathlib.Core.List.{List, ◌++◌}
use mathlib.Core.Logic.{⊎_elim, ◌↔◌}
use Prim.Native.Nat.{ℕ, ◌≤◌, ◌<◌}
use borrow.Author.Tests.{le-leb, lt-leb}
use lib.Dec.{leb}
use lib.ListN.{length, drop}
use lib.Seq.{take-append_seam}
use Rattle.laws.proofs.Lists.{below_or_not}
use Rattle.cipher.specs.declared.Cipher.{Cipher}
use Rattle.checkpoint.specs.Checkpoint.{layout, length_of}
use Rattle.checkpoint.proofs.Checkpoint.{layout_length}
use Rattle.laws.specs.Lent.{put_first}
use Rattle.laws.specs.Result.{refused, accepted}
use Rattle.engine.specs.declared.Head.{Head}
use Rattle.engine.specs.Calls.{engine_of, head_ready, Written, write}
use Rattle.theorems.specs.Demand3.{given}
use Rattle.laws.proofs.Results.{no_refusal, accepted_one, after_line, after_unless}
use Rattle.conditions.proofs.Shows.{ReadyShows, word_shows}

-- the layout of head and area is given, and head, area and later bytes stay
pub record WriteShows (h : Head) (area lent : List ℕ) (w : Written) (c : Cipher) : Type 0 where
  pub is_ready : ReadyShows h.code h.position (length area) c
  pub engine_is : w.engine ≡ engine_of h area
  pub length_is : w.length ≡ length_of c h.position
  pub string : given w ≡ layout c h.position area
  pub as_long : length (given w) ≡ w.length
  pub later : w.lent ≡ given w ++ drop w.length lent

module _ (h : Head) (area lent : List ℕ) where
  abbrev written_by : Cipher → Written
  written_by c = record { engine = engine_of h area; length = length_of c h.position; lent = put_first (layout c h.position area) lent }

  pub write_shows : (w : Written) → write h area lent ≡ accepted w → (c : Cipher) × WriteShows h area lent w c
  unfolding write
  write_shows w e =
      after_line (head_ready h area) _ e (λ _. no_refusal) λ c e₁ r₁.
      after_unless 8 (leb (length_of c h.position) (length lent)) _ r₁ no_refusal λ e₂ r₂.
      let r = (word_shows h.code h.position h.word area c e₁).is_ready in
      let string = layout c h.position area in
      let n : length string ≡ length_of c h.position = layout_length c h.position area r.sized in
      let g : given (written_by c) ≡ string = rw (← n) (take-append_seam string _) in
      subst (λ (x : Written). (c : Cipher) × WriteShows h area lent x c) (accepted_one refl r₂) (
        c,
        record {
          is_ready = r;
          engine_is = refl;
          length_is = refl;
          string = g;
          as_long = ap length g ∙ n;
          later = rw (g, ← n);
        },
      )

  -- where code, area, position and word are right
  module _ (c : Cipher) (e : head_ready h area ≡ accepted c) where
    pub write_enough : length_of c h.position ≤ length lent → (w : Written) × (write h area lent ≡ accepted w)
    unfolding write
    write_enough l = (written_by c, rw (e, le-leb (length_of c h.position) (length lent) l))

    pub write_too_few : length lent < length_of c h.position → write h area lent ≡ refused 8
    unfolding write
    write_too_few l = rw (e, lt-leb (length_of c h.position) (length lent) l)

    pub write_iff : ((w : Written) × (write h area lent ≡ accepted w)) ↔ (length_of c h.position ≤ length lent)
    write_iff = (
      (λ t. ⊎_elim (λ l. no_refusal (sym t.1 ∙ write_too_few l)) (λ l. l) (below_or_not (length lent) (length_of c h.position))),
      write_enough,
    )

    pub write_8_iff : (write h area lent ≡ refused 8) ↔ (length lent < length_of c h.position)
    write_8_iff = (
      (λ t. ⊎_elim (λ l. l) (λ l. no_refusal (sym (write_enough l).1 ∙ t)) (below_or_not (length lent) (length_of c h.position))),
      write_too_few,
    )
