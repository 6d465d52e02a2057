-- The answer as the code works it out, number by number. Only contracts below the calls cite it.
use Rattle.std.specs.Prelude.{cond, List, [], ◌∷◌, ℕ, zero, suc, ◌+◌, ◌-◌, ◌*◌, ltb, length}
use Rattle.laws.specs.Result.{Result, refused, accepted}
use Rattle.volume.specs.declared.Range.{Range}
use Rattle.volume.specs.Volume.{count_range, minutes_range, litres_range, ratio_range, product_range}
use Rattle.volume.specs.Calls.{ValueRead, read_value, read_entry}
use Rattle.soundness.specs.declared.Soundness.{Soundness}
use Rattle.soundness.specs.declared.Soundness.TheVariants as answer

-- what follows a refusal, or what was read
abbrev pub either : {A B : Type 0} → Result A → B → (A → B) → B
either (refused n) b f = b
either (accepted a) b f = f a

-- hopeless at the byte before these, which are the last bytes of the string
abbrev pub hopeless_before : (string rest : List ℕ) → Soundness
hopeless_before string rest = answer.Hopeless (length string - length rest)

-- A number up to `most` that reading refuses, from one of its groups on. Those before it make `value` in all, and it has this weight. A group that
-- announces another leaves no number below value + weight * group, since the last group is not 0.
unfoldable pub groups_soundness : (string : List ℕ) (most value weight : ℕ) (groups : List ℕ) → Soundness
groups_soundness string most value weight [] = answer.Cut
groups_soundness string most value weight (group ∷ rest) =
    cond (ltb group 128) (hopeless_before string rest)
    (cond (ltb most (value + weight * group)) (hopeless_before string rest)
    (groups_soundness string most (value + weight * (group - 128)) (128 * weight) rest))

abbrev pub number_soundness : (string : List ℕ) → Range → (rest : List ℕ) → Soundness
number_soundness string range rest = groups_soundness string range.most 0 1 rest

-- a number in its range and what comes after it
abbrev pub after_number : (string : List ℕ) → Range → (rest : List ℕ) → (ValueRead → Soundness) → Soundness
after_number string range rest = either (read_value range rest) (number_soundness string range rest)

-- an entry that reading refuses: its first number that reading refuses
unfoldable pub entry_soundness : (string rest : List ℕ) → Soundness
entry_soundness string rest =
    after_number string minutes_range rest λ minutes.
    after_number string litres_range minutes.rest λ litres.
    after_number string ratio_range litres.rest λ ratio.
    number_soundness string product_range ratio.rest

-- so many entries, and nothing after them
unfoldable pub entries_soundness : (string : List ℕ) (count : ℕ) (rest : List ℕ) → Soundness
entries_soundness string zero [] = answer.Sound
entries_soundness string zero (b ∷ rest) = hopeless_before string rest
entries_soundness string (suc n) rest = either (read_entry rest) (entry_soundness string rest) λ first. entries_soundness string n first.rest

unfoldable pub volume_soundness : (string : List ℕ) → Soundness
volume_soundness string = after_number string count_range string λ count. entries_soundness string count.value count.rest
