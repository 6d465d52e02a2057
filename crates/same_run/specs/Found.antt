-- What a checkpoint's string leads back to, as the code hands it on. Only contracts below the call cite it.
use Rattle.std.specs.Prelude.{◌≡◌, true, List, ℕ, Ok, Err}
use Rattle.std.specs.Prelude as Std
use Rattle.laws.specs.Result.{refused, accepted}
use Rattle.refusal.specs.declared.Refusal.{Refusal}
use Rattle.refusal.specs.Numbers.{number_of}
use Rattle.keys.specs.Key.{doubled, key_of, iv_of}
use Rattle.conditions.specs.Conditions.{Contents, string_check}
use Rattle.same_run.specs.declared.Origin.{Origin}

-- what the string holds has the cipher and the key and the IV of the sixteen words
pub record OriginOf (r : Origin) (l : Contents) : Type 0 where
  pub cipher_is_lem : l.cipher ≡ r.cipher
  pub key_is : l.key ≡ key_of r.cipher r.words
  pub iv_is : l.iv ≡ iv_of r.cipher r.words
  pub doubled_is : doubled r.cipher r.words ≡ true

-- load's refusal of the string, or its cipher with the sixteen words of its key and IV
abbrev pub OriginIs : (string : List ℕ) → Std.Result Origin Refusal → Type 0
OriginIs string (Ok r) = (l : Contents) × (string_check string ≡ accepted l) × OriginOf r l
OriginIs string (Err r) = string_check string ≡ refused (number_of r)
