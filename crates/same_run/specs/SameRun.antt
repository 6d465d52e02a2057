-- Document 02 (m), same run or not: the call as a definition of the two strings. `SameRun` in theorems/specs says that yes is given exactly where
-- moving the first by q - p writes the second.
use Rattle.std.specs.Prelude.{Bool, false, cond, ◌&&◌, List, ℕ, eqb}
use Rattle.laws.specs.Same.{same}
use Rattle.laws.specs.Result.{Result, accepted, Outcome, outcome, ◌>>=◌, ◌>>◌, refuse◌unless◌}
use Rattle.cipher.specs.Numbers.{code_of}
use Rattle.conditions.specs.Conditions.{Contents, string_check}
use Rattle.same_run.specs.declared.YesOrNoAnswer.{YesOrNoAnswer}

-- whether two checkpoints 'have the same key and IV'
abbrev pub same_key_and_iv : (a b : Contents) → Bool
same_key_and_iv a b = same a.key b.key && same a.iv b.iv

-- 'It refuses what load refuses of a string, the first string first, and two different ciphers with 23 last.'
unfoldable pub same_run : (first second : List ℕ) → Result Bool
same_run first second = do
  a ← string_check first
  b ← string_check second
  refuse 23 unless eqb (code_of a.cipher) (code_of b.cipher)
  accepted (same_key_and_iv a b)

-- a refused pair is answered with no beside the number
unfoldable pub same_run_call : (first second : List ℕ) → Outcome Bool
same_run_call first second = outcome false (same_run first second)

-- ── for C ──

-- yes is 1, no is 0
abbrev pub for_c : Outcome Bool → YesOrNoAnswer
for_c o = record { refusal = o.refusal; yes = cond o.value 1 0 }
