-- What the code's answer means: the place after a number stands for the bytes from there on.
use Rattle.std.specs.Prelude.{List, ℕ, ◌≤◌, ◌<◌, drop, Result, Ok, Err}
use Rattle.varint.specs.declared.Found.{Found}
use Rattle.varint.specs.declared.NoNumber.{NoNumber}
use Rattle.varint.specs.declared.NoNumber.TheVariants as no
use Rattle.varint.specs.Number.{Reading, is, ended, malformed}

abbrev pub reading_of : List ℕ → Result (Found ℕ) NoNumber → Reading
reading_of string (Ok found) = is found.value (drop found.next string)
reading_of string (Err no.Ended) = ended
reading_of string (Err no.Malformed) = malformed

-- the place after a number that was read from place `at` on lies after `at`, and in the string, which has n bytes
abbrev pub next_within : ℕ → ℕ → Result (Found ℕ) NoNumber → Type 0
next_within at n (Ok found) = (at < found.next) × (found.next ≤ n)
next_within at n (Err e) = Unit {0}
