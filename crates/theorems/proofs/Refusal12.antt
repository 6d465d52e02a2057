-- Refusal 12 is given exactly where the conditions before it hold and no key and IV have these tables at this position, and it does occur.
-- Assumes nothing.
use mathlib.Core.Path.{◌≡◌, refl, ap, ◌∙◌}
use mathlib.Core.List.{List}
use mathlib.Core.Logic.{◌↔◌}
use Prim.Native.Nat.{ℕ}
use native.Mathlib.Omega.{arith}
use lib.ListN.{length}
use Rattle.word.specs.Bytes.{words, AllBytes, AllWords}
use Rattle.word.proofs.Bytes.{words_bytes}
use Rattle.cipher.specs.declared.Cipher.{Cipher}
use Rattle.cipher.specs.Numbers.{code_of}
use Rattle.tables.specs.Area.{Area}
use Rattle.steps.specs.Steps.{word_at}
use Rattle.setup.specs.SetUp.{Undone, none, found}
use Rattle.checkpoint.specs.Checkpoint.{layout}
use Rattle.engine.specs.declared.Head.{Head}
use Rattle.laws.specs.Result.{refused}
use Rattle.engine.specs.Head.{head_at}
use Rattle.conditions.specs.Conditions.{undo_at, found_or12, recover_check, load_check}
use Rattle.engine.specs.Calls.{recover, load}
use Rattle.theorems.specs.Refusal12.{NoneHave, RecoverNone, LoadNone, Refusal12}
use Rattle.laws.proofs.Results.{no_refusal, refused_iff}
use Rattle.theorems.proofs.Tables.{undo_finds, found_have}
use Rattle.theorems.proofs.Zeros.{none_found_at}
use Rattle.conditions.proofs.Shows.{refused_only, WordShows}
use Rattle.theorems.proofs.Conditions.{recover_finds, recover_passed, load_finds, load_passed}
use Rattle.theorems.proofs.Checkpoints.{LaidOut, laid_out_passed, passed_laid_out}

module _ (c : Cipher) (s : List ℕ) (p : ℕ) (area : Area c s) where
  undone_none : (u : Undone) → undo_at c s p ≡ u → found_or12 u ≡ refused 12 ↔ NoneHave c s p
  undone_none none e = (
    (λ r k v pair h. let z : ◌≡◌ {A = ℕ} 0 1 = cc (e, ap (λ (x : List ℕ). undo_at c x p) h, undo_finds c k v p pair) in omega arith),
    (λ n. refl),
  )
  undone_none (found k v) e = (
    no_refusal,
    (λ n. let h = found_have c s p k v area e in absurd (n k v h.0 h.1)),
  )

  -- the last condition refuses exactly where none have the tables
  last_refused : found_or12 (undo_at c s p) ≡ refused 12 ↔ NoneHave c s p
  last_refused = undone_none (undo_at c s p) refl

-- where the conditions before 12 hold and none have the tables, a call is refused with 12, ..
recover_refused : (h : Head) (area key iv : List ℕ) → AllWords area → RecoverNone h area key iv → recover h area key iv ≡ refused 12
unfolding recover
recover_refused h area key iv all t =
    let c = t.cipher in
    let k = length key in
    let v = length iv in
    let r : WordShows h.code h.position h.word area c =
    record { is_ready = record { code_is = t.code_is; sized = t.sized; within_limit = t.within }; word_is = t.word_is } in
    (refused_iff _ (recover_check h.code h.position h.word area k v) 12).1
    (recover_finds h.code h.position h.word area k v c r t.key_long t.iv_long
    ∙ (last_refused c area h.position (record { sized = t.sized; words = all })).1 t.none_have)

load_refused : (string area : List ℕ) → LoadNone string area → load string area ≡ refused 12
unfolding load
load_refused string area t =
    let size = length area in
    let c = t.cipher in
    let p = t.position in
    let s = t.tables in
    let h : LaidOut string size c p s =
    record { is_area = t.is_area; within = t.within; string_is = t.string_is; sized = t.sized } in
    (refused_iff _ (load_check string size) 12).1
    (load_finds string size c p _ (laid_out_passed string size c p s h)
    ∙ rw (words_bytes s t.is_area.words)
    ((refused_iff _ (found_or12 (undo_at c s p)) 12).1 ((last_refused c s p t.is_area).1 t.none_have)))

-- .. and nowhere else
of_recover : (h : Head) (area key iv : List ℕ) → AllWords area → recover h area key iv ≡ refused 12 ↔ RecoverNone h area key iv
unfolding recover
of_recover h area key iv all =
    let k = length key in
    let v = length iv in (
      (λ e.
          let only = (refused_iff _ (recover_check h.code h.position h.word area k v) 12).0 e in
          let (c, w, kn, vn, last) = recover_passed h.code h.position h.word area k v refused_only only in
          let r = w.is_ready in
          record {
            cipher = c;
            code_is = r.code_is;
            sized = r.sized;
            within = r.within_limit;
            word_is = w.word_is;
            key_long = kn;
            iv_long = vn;
            none_have = (last_refused c area h.position (record { sized = r.sized; words = all })).0 last;
          }),
      recover_refused h area key iv all,
    )

of_load : (string area : List ℕ) → AllBytes string → load string area ≡ refused 12 ↔ LoadNone string area
unfolding load
of_load string area all =
    let size = length area in (
      (λ e.
          let only = (refused_iff _ (load_check string size) 12).0 e in
          let (c, p, rest, passed, last) = load_passed string size refused_only only in
          let h = passed_laid_out string size c p rest all passed in
          let s = words rest in
          record {
            cipher = c;
            position = p;
            tables = s;
            is_area = h.is_area;
            within = h.within;
            string_is = h.string_is;
            sized = h.sized;
            none_have = (last_refused c s p h.is_area).0 ((refused_iff _ (found_or12 (undo_at c s p)) 12).0 last);
          }),
      load_refused string area,
    )

-- there are tables that no key and IV have at position p
tables_of_none : (c : Cipher) (p : ℕ) → (s : List ℕ) × Area c s × NoneHave c s p
unfolding undo_at
tables_of_none c p =
    let (s, area, e) = none_found_at c p in
    (s, area, (last_refused c s p area).0 (ap found_or12 e))

pub refusal12 : Refusal12
refusal12 = record {
  of_recover = of_recover;
  of_load = of_load;
  occurs = λ c p l.
      let (s, area, n) = tables_of_none c p in (
        s,
        area,
        (λ mark key iv kn vn.
            recover_refused (head_at (code_of c) p (word_at c s p) mark) s key iv area.words
            (record { cipher = c; code_is = refl; sized = area.sized; within = l; word_is = refl; key_long = kn; iv_long = vn; none_have = n })),
        (λ lent z.
            load_refused (layout c p s) lent
            (record { cipher = c; position = p; tables = s; is_area = area; within = l; string_is = refl; sized = z; none_have = n })),
      );
}
