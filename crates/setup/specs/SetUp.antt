-- Whole set-up, from key and IV to the area, and its undoing, from an area to key and IV or none.
use Rattle.std.specs.Prelude.{cond, List, ℕ}
use Rattle.cipher.specs.declared.Cipher.{Cipher}
use Rattle.schedule.specs.Expansion.{filled}
use Rattle.keys.specs.Key.{sixteen, key_of, iv_of}
use Rattle.schedule.specs.Origin.{origin, is_filled}
use Rattle.last_pass.specs.LastPass.{last_pass, undo_last_pass}

-- the area of a key and an IV: the expansion fills it, and the last pass ends set-up
unfoldable pub set_up : Cipher → List ℕ → List ℕ → List ℕ
set_up c key iv = last_pass c (filled c (sixteen c key iv))

-- what undoing set-up finds
pub data Undone : Type 0 where
  none : Undone
  found : List ℕ → List ℕ → Undone

-- the key and the IV of a filled area, where it is one that an expansion fills
abbrev pub unfilled : Cipher → List ℕ → Undone
unfilled c s = cond (is_filled c s) (found (key_of c (origin c s)) (iv_of c (origin c s))) none

-- the last pass undone, then the expansion
unfoldable pub undo : Cipher → List ℕ → Undone
undo c s = unfilled c (undo_last_pass c s)
