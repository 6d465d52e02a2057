-- The words of the command line.
use Rattle.std.specs.Prelude.{cond, Option, Some, None, List, [], ◌∷◌, ℕ}
use Rattle.laws.specs.Same.{same}
use Rattle.cipher.specs.declared.Cipher.TheVariants.{Hc128, Hc256}
use Rattle.cipher.specs.Numbers.{code_of}
use Rattle.lab.specs.declared.Command.{Command}
use Rattle.lab.specs.declared.Command.TheVariants.{Cipher, Describe, Recover, Open, At, Write, SameRun, Help}

-- the words that it knows, as the bytes of their letters
abbrev pub «cipher» : List ℕ
«cipher» = 99 ∷ 105 ∷ 112 ∷ 104 ∷ 101 ∷ 114 ∷ []

abbrev pub «describe» : List ℕ
«describe» = 100 ∷ 101 ∷ 115 ∷ 99 ∷ 114 ∷ 105 ∷ 98 ∷ 101 ∷ []

abbrev pub «recover» : List ℕ
«recover» = 114 ∷ 101 ∷ 99 ∷ 111 ∷ 118 ∷ 101 ∷ 114 ∷ []

abbrev pub «open» : List ℕ
«open» = 111 ∷ 112 ∷ 101 ∷ 110 ∷ []

abbrev pub «at» : List ℕ
«at» = 97 ∷ 116 ∷ []

abbrev pub «write» : List ℕ
«write» = 119 ∷ 114 ∷ 105 ∷ 116 ∷ 101 ∷ []

abbrev pub «same_run» : List ℕ
«same_run» = 115 ∷ 97 ∷ 109 ∷ 101 ∷ 45 ∷ 114 ∷ 117 ∷ 110 ∷ []

abbrev pub «help» : List ℕ
«help» = 104 ∷ 101 ∷ 108 ∷ 112 ∷ []

abbrev pub «hc128» : List ℕ
«hc128» = 104 ∷ 99 ∷ 49 ∷ 50 ∷ 56 ∷ []

abbrev pub «hc256» : List ℕ
«hc256» = 104 ∷ 99 ∷ 50 ∷ 53 ∷ 54 ∷ []

-- the command that a word names, if it names one
unfoldable pub command_of : List ℕ → Option Command
command_of w =
    cond (same w «cipher») (Some Cipher)
    (cond (same w «describe») (Some Describe)
    (cond (same w «recover») (Some Recover)
    (cond (same w «open») (Some Open)
    (cond (same w «at») (Some At)
    (cond (same w «write») (Some Write)
    (cond (same w «same_run») (Some SameRun)
    (cond (same w «help») (Some Help) None)))))))

-- the code of the cipher that a word names, 0 where it names none
unfoldable pub cipher_code : List ℕ → ℕ
cipher_code w = cond (same w «hc128») (code_of Hc128) (cond (same w «hc256») (code_of Hc256) 0)
