-- The loader accepts the checkpoints of fours and no other strings of bytes, and no two fours share a checkpoint. Assumes nothing.
use mathlib.Core.Path.{◌≡◌, refl, sym, ap, ◌∙◌, subst}
use mathlib.Core.List.{List, ◌++◌}
use Prim.Native.Nat.{ℕ, suc, ◌*◌, ◌≤◌}
use native.Mathlib.Omega.{arith}
use lib.ListN.{length}
use lib.Seq.{drop-append_seam}
use Rattle.laws.proofs.Lists.{drop_below}
use Rattle.word.specs.Bytes.{bytes, words, AllBytes}
use Rattle.word.proofs.Bytes.{words_bytes, bytes_words, length_bytes, length_words, words_lt}
use Rattle.varint.specs.Number.{number}
use Rattle.varint.proofs.Reading.{read_written, written_read}
use Rattle.cipher.specs.declared.Cipher.{Cipher}
use Rattle.cipher.specs.Numbers.{area_length}
use Rattle.cipher.proofs.Codes.{same_code}
use Rattle.tables.specs.Area.{Area}
use Rattle.laws.specs.Result.{accepted}
use Rattle.conditions.specs.Limit.{limit}
use Rattle.checkpoint.specs.Checkpoint.{layout, most_groups}
use Rattle.conditions.specs.Conditions.{undo_at, found_or12, Contents, load_check}
use Rattle.theorems.specs.Account.{Four, tables_of, checkpoint_of, Checkpoint}
use Rattle.laws.proofs.Results.{no_refusal, accepted_one, after_line}
use Rattle.theorems.proofs.Tables.{undo_finds, found_have, four_area}
use Rattle.conditions.proofs.Shows.{accepted_only}
use Rattle.theorems.proofs.Conditions.{found_shows, LoadPassed, load_finds, load_passed}

abbrev pub four_of : Contents → Four
four_of l = record { cipher = l.cipher; key = l.key; iv = l.iv; position = l.position }

abbrev pub loaded_of : Four → Contents
loaded_of f = record { cipher = f.cipher; key = f.key; iv = f.iv; position = f.position; area = tables_of f }

-- ── what is laid out ──

-- the string is laid out as a checkpoint, and the size is that of its cipher's area
pub record LaidOut (string : List ℕ) (size : ℕ) (c : Cipher) (p : ℕ) (s : List ℕ) : Type 0 where
  pub is_area : Area c s
  pub within : p ≤ limit
  pub string_is : string ≡ layout c p s
  pub sized : size ≡ area_length c

-- the conditions of load before 12 hold of it, ..
pub laid_out_passed : (string : List ℕ) (size : ℕ) (c : Cipher) (p : ℕ) (s : List ℕ) → LaidOut string size c p s
    → LoadPassed string size c p (bytes s)
unfolding layout
laid_out_passed string size c p s h = record {
  tail = number p ++ bytes s;
  string_is = h.string_is;
  sized = h.sized;
  position_read_lem =
      let l = h.within in
      read_written most_groups p (bytes s) (omega arith) (omega arith) (omega arith);
  within_limit = h.within;
  rest_long = length_bytes s ∙ ap (λ (n : ℕ). 4 * n) h.is_area.sized;
}

-- .. and of no other string of bytes
pub passed_laid_out : (string : List ℕ) (size : ℕ) (c : Cipher) (p : ℕ) (rest : List ℕ) → AllBytes string
    → LoadPassed string size c p rest → LaidOut string size c p (words rest)
unfolding layout
passed_laid_out string size c p rest all h =
    let n = number p in
    let tail_bytes : AllBytes h.tail = λ k. (subst AllBytes h.string_is all) (suc k) in
    let read = (written_read most_groups (omega arith) h.tail p rest tail_bytes h.position_read_lem).0 in
    let rest_bytes : AllBytes rest = subst AllBytes (drop-append_seam n rest) (drop_below (length n) _ (subst AllBytes read tail_bytes)) in
    let rest_is : bytes (words rest) ≡ rest = bytes_words (area_length c) rest h.rest_long rest_bytes in
    record {
      is_area = record { sized = length_words (area_length c) rest h.rest_long; words = words_lt rest rest_bytes };
      within = h.within_limit;
      string_is = h.string_is ∙ rw (rest_is, read);
      sized = h.sized;
    }

-- ── what is loaded ──

pub load_checkpoint : (string : List ℕ) (size : ℕ) (f : Four) → Checkpoint string f → size ≡ area_length f.cipher
    → load_check string size ≡ accepted (loaded_of f)
unfolding checkpoint_of tables_of
load_checkpoint string size f h z =
    let area = four_area f h.is_four in
    load_finds string size f.cipher f.position _
    (laid_out_passed string size f.cipher f.position (tables_of f)
    (record { is_area = area; within = h.is_four.within; string_is = h.string_is; sized = z }))
    ∙ rw (words_bytes (tables_of f) area.words, undo_finds f.cipher f.key f.iv f.position h.is_four.pair)

-- what an accepted load shows
pub record LoadShows (string : List ℕ) (size : ℕ) (l : Contents) : Type 0 where
  pub checkpoint : Checkpoint string (four_of l)
  pub sized : size ≡ area_length l.cipher
  pub area_is : l.area ≡ tables_of (four_of l)

pub load_shows : (string : List ℕ) (size : ℕ) (l : Contents) → AllBytes string → load_check string size ≡ accepted l
    → LoadShows string size l
unfolding checkpoint_of tables_of
load_shows string size l all e =
    let (c, p, rest, passed, last) = load_passed string size accepted_only e in
    let h = passed_laid_out string size c p rest all passed in
    after_line (found_or12 (undo_at c (words rest) p)) _ last (λ _. no_refusal) λ pair e₁ r₁.
    let have = found_have c (words rest) p pair.key pair.iv h.is_area (found_shows (undo_at c (words rest) p) pair e₁) in
    subst (LoadShows string size) (accepted_one refl r₁)
    (record {
      checkpoint = record {
        is_four = record { pair = have.0; within = h.within };
        string_is = h.string_is ∙ ap (layout c p) (sym have.1);
      };
      sized = h.sized;
      area_is = sym have.1;
    })

-- a checkpoint's loading, at whatever size it is accepted
pub load_is : (string : List ℕ) (size : ℕ) (l : Contents) (f : Four) → load_check string size ≡ accepted l → Checkpoint string f
    → l ≡ loaded_of f
unfolding checkpoint_of layout
load_is string size l f e h =
    let (c, p, rest, passed, last) = load_passed string size accepted_only e in
    let s = passed.string_is in
    let t = h.string_is in
    let same : c ≡ f.cipher = same_code c f.cipher (cc) in
    accepted_one e (load_checkpoint string size f h (passed.sized ∙ ap area_length same))

pub checkpoint_of_one : (string : List ℕ) (f g : Four) → Checkpoint string f → Checkpoint string g → f ≡ g
checkpoint_of_one string f g h i =
    ap four_of (load_is string (area_length f.cipher) (loaded_of f) g (load_checkpoint string _ f h refl) i)
