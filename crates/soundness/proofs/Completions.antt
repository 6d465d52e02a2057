-- What makes an answer fit a string, from what the check of a volume says of single strings. Assumes nothing.
use mathlib.Core.Path.{◌≡◌, sym, ap, ◌∙◌}
use mathlib.Core.List.{List, [], ◌∷◌, ◌++◌, append_assoc}
use Prim.Native.Nat.{ℕ, suc, ◌-◌, ◌*◌}
use native.Mathlib.Omega.{arith}
use lib.ListN.{length, take, drop, replicate, length-append, length-replicate, take-append-drop}
use lib.Seq.{take_at, take-append-le}
use Rattle.laws.specs.Result.{refused, accepted}
use Rattle.laws.proofs.Results.{no_refusal}
use Rattle.laws.proofs.Lists.{append_below, drop_below}
use Rattle.word.specs.Bytes.{AllBytes}
use Rattle.volume.specs.declared.Entry.{Entry}
use Rattle.volume.specs.Calls.{entries_in, check_volume}
use Rattle.volume.proofs.Volumes.{check_accepted}
use Rattle.volume.proofs.Shows.{read_shows, read_accepts}
use Rattle.soundness.specs.declared.Soundness.TheVariants as answer
use Rattle.soundness.specs.Soundness.{IsVolume, Completable, Fits}
use Rattle.soundness.specs.Found.{hopeless_before}

-- ---- reading accepts a string exactly where the check does

abbrev pub Checks : List ℕ → Type 0
Checks string = check_volume string ≡ accepted (tt {0})

pub entries_volume : (string : List ℕ) (entries : List Entry) → entries_in string ≡ accepted entries → IsVolume string
entries_volume string entries e =
    let list : List ℕ = replicate (4 * length entries) 0 in
    let room : length list ≡ 4 * length entries = length-replicate (4 * length entries) 0 in
    (list, _, read_accepts string list entries e (omega arith))

pub volume_is : (string : List ℕ) → Checks string → IsVolume string
volume_is string h = let e = check_accepted string (sym h) in entries_volume string e.0 e.1

pub checks_volume : (string : List ℕ) → IsVolume string → Checks string
unfolding check_volume
checks_volume string v = rw (read_shows string v.0 v.1 v.2).entries_are

-- ---- beginnings

-- bytes that complete a string into a volume
pub record Completes (string : List ℕ) : Type 0 where
  pub more : List ℕ
  pub bytes : AllBytes more
  pub checks : Checks (string ++ more)

-- a beginning of a string that can be completed can be completed, too
pub shorter : (string : List ℕ) (n : ℕ) → AllBytes string → Completes string → Completable (take n string)
shorter string n bytes c =
    let e : take n string ++ (drop n string ++ c.more) ≡ string ++ c.more =
    sym (append_assoc (take n string) (drop n string) c.more) ∙ ap (λ (s : List ℕ). s ++ c.more) (take-append-drop n string) in
    (drop n string ++ c.more, append_below (drop n string) c.more (drop_below n string bytes) c.bytes, volume_is _ (rw e c.checks))

pub cut_fits : (string : List ℕ) (n : ℕ) → AllBytes string → check_volume string ≡ refused n → Completes string → Fits string answer.Cut
cut_fits string n bytes r c = ((λ v. no_refusal (sym (checks_volume string v) ∙ r)), λ m l. shorter string m bytes c)

module _ (before rest : List ℕ) (b : ℕ) where
  abbrev string : List ℕ
  string = before ++ (b ∷ rest)

  bytes_until : length string - length rest ≡ suc (length before)
  bytes_until = omega (arith, length-append before (b ∷ rest))

  -- the beginning that ends with byte b
  with_byte : take (suc (length before)) string ≡ before ++ (b ∷ [])
  with_byte =
      ap (take (suc (length before))) (sym (append_assoc before (b ∷ []) rest))
      ∙ take_at (before ++ (b ∷ [])) rest (suc (length before)) (omega (arith, length-append before (b ∷ [])))

  pub hopeless_fits : AllBytes before → Completes before → ((more : List ℕ) → AllBytes more → Checks (before ++ (b ∷ more)) → ⊥)
      → Fits string (hopeless_before string rest)
  hopeless_fits bytes c none = rw bytes_until (
    omega (arith, length-append before (b ∷ rest)),
    (λ d. none d.0 d.1 (rw (with_byte, append_assoc before (b ∷ []) d.0) at (checks_volume _ d.2))),
    λ m l. rw (take-append-le m before (b ∷ rest) (omega arith)) (shorter before m bytes c),
  )
