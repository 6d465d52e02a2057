-- The way back is the exact inverse, to the key and IV: demand 2's second half, for both ciphers.
use Rattle.std.specs.Prelude.{◌≡◌, ◌↔◌, List, ℕ}
use Rattle.cipher.specs.declared.Cipher.{Cipher}
use Rattle.tables.specs.Area.{Area}
use Rattle.tables.specs.Step.{step, step_back}
use Rattle.keys.specs.Key.{Pair}
use Rattle.last_pass.specs.LastPass.{last_pass, undo_last_pass}
use Rattle.steps.specs.Steps.{steps, steps_back}
use Rattle.setup.specs.SetUp.{set_up, undo, found, none}

pub record Inverse : Type 0 where
  -- a step and its inverse undo each other, both ways, on every area of 2T words
  pub step_undone : (c : Cipher) (s : List ℕ) (i : ℕ) → Area c s → step_back c (step c s i) i ≡ s
  pub step_redone : (c : Cipher) (s : List ℕ) (i : ℕ) → Area c s → step c (step_back c s i) i ≡ s
  -- so do n steps, from any step on
  pub steps_undone : (c : Cipher) (s : List ℕ) (i n : ℕ) → Area c s → steps_back c (steps c s i n) i n ≡ s
  pub steps_redone : (c : Cipher) (s : List ℕ) (i n : ℕ) → Area c s → steps c (steps_back c s i n) i n ≡ s
  -- so does set-up's last pass
  pub last_pass_undone : (c : Cipher) (s : List ℕ) → Area c s → undo_last_pass c (last_pass c s) ≡ s
  pub last_pass_redone : (c : Cipher) (s : List ℕ) → Area c s → last_pass c (undo_last_pass c s) ≡ s
  -- undoing set-up finds its key and IV
  pub set_up_undone : (c : Cipher) (k v : List ℕ) → Pair c k v → undo c (set_up c k v) ≡ found k v
  -- where undoing finds a key and an IV, they have the cipher's lengths and set-up with them gives that very area
  pub set_up_redone : (c : Cipher) (s : List ℕ) → Area c s → (k v : List ℕ) → undo c s ≡ found k v → Pair c k v × (set_up c k v ≡ s)
  -- no two pairs of key and IV share an area
  pub set_up_unique : (c : Cipher) (k v k' v' : List ℕ) → Pair c k v → Pair c k' v' → set_up c k v ≡ set_up c k' v' → (k ≡ k') × (v ≡ v')
  -- none is found exactly where no key and IV of the cipher's lengths have that area
  pub none_exactly : (c : Cipher) (s : List ℕ) → Area c s
      → undo c s ≡ none ↔ ((k v : List ℕ) → Pair c k v → set_up c k v ≡ s → ⊥)
