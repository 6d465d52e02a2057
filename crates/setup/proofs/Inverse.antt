-- Set-up and its undoing: each finds what the other was given, and no two pairs of key and IV share an area. Assumes nothing.
use mathlib.Core.Path.{◌≡◌, refl, sym, ap, ap₂, ◌∙◌}
use mathlib.Core.Bool.{Bool, true, false}
use mathlib.Core.List.{List}
use Prim.Native.Nat.{ℕ}
use native.Mathlib.Omega.{arith}
use Rattle.cipher.specs.declared.Cipher.{Cipher}
use Rattle.tables.specs.Area.{Area}
use Rattle.schedule.specs.Expansion.{filled}
use Rattle.keys.specs.Key.{Pair, sixteen, key_of, iv_of}
use Rattle.schedule.specs.Origin.{origin, is_filled}
use Rattle.schedule.proofs.Expansion.{filled_length, filled_words}
use Rattle.keys.proofs.Sixteen.{sixteen_length, sixteen_words, key_back, iv_back}
use Rattle.schedule.proofs.Pair.{origin_sixteen, sixteen_filled, origin_pair, filled_origin}
use Rattle.last_pass.specs.LastPass.{undo_last_pass}
use Rattle.last_pass.proofs.Inverse.{last_pass_area, undo_last_pass_area, last_pass_undone, last_pass_redone}
use Rattle.setup.specs.SetUp.{set_up, Undone, none, found, undo}

none_not_found : (k v : List ℕ) → none ≡ found k v → ⊥
none_not_found k v e = let z : ◌≡◌ {A = ℕ} 0 1 = cc in omega arith

-- undoing, by whether the area, its last pass undone, is one that an expansion fills
module _ (c : Cipher) (s : List ℕ) where
  pub undo_not_filled : is_filled c (undo_last_pass c s) ≡ false → undo c s ≡ none
  unfolding undo
  undo_not_filled f = rw f

  pub undo_filled : is_filled c (undo_last_pass c s) ≡ true
      → undo c s ≡ found (key_of c (origin c (undo_last_pass c s))) (iv_of c (origin c (undo_last_pass c s)))
  unfolding undo
  undo_filled f = rw f

module _ (c : Cipher) (k v : List ℕ) (pair : Pair c k v) where
  filled_area : Area c (filled c (sixteen c k v))
  filled_area = record {
    sized = filled_length c (sixteen c k v) (sixteen_length c k v pair);
    words = filled_words c (sixteen c k v) (sixteen_length c k v pair) (sixteen_words c k v pair);
  }

  pub set_up_area : Area c (set_up c k v)
  unfolding set_up
  set_up_area = last_pass_area c _ filled_area

  pub set_up_undone : undo c (set_up c k v) ≡ found k v
  unfolding set_up undo
  set_up_undone =
      rw (last_pass_undone c _ filled_area, sixteen_filled c k v pair, origin_sixteen c k v pair)
      (ap₂ found (key_back c k v pair) (iv_back c k v pair))

module _ (c : Cipher) (s : List ℕ) (area : Area c s) where
  found_again : (b : Bool) → is_filled c (undo_last_pass c s) ≡ b → (k v : List ℕ) → undo c s ≡ found k v
      → Pair c k v × (set_up c k v ≡ s)
  unfolding set_up
  found_again false f k v e = absurd (none_not_found k v (sym (undo_not_filled c s f) ∙ e))
  found_again true f k v e =
      let w = origin c (undo_last_pass c s) in
      let a = undo_last_pass_area c s area in
      let same : found (key_of c w) (iv_of c w) ≡ found k v = sym (undo_filled c s f) ∙ e in
      let ek : key_of c w ≡ k = cc in
      let ev : iv_of c w ≡ v = cc in (
        rw (ek, ev) at (origin_pair c (undo_last_pass c s) a.sized a.words),
        rw (← ek, ← ev, ← filled_origin c (undo_last_pass c s) a.sized a.words f) (last_pass_redone c s area),
      )

  pub set_up_redone : (k v : List ℕ) → undo c s ≡ found k v → Pair c k v × (set_up c k v ≡ s)
  set_up_redone k v e = found_again (is_filled c (undo_last_pass c s)) refl k v e

  -- none is found exactly where no key and IV have the area
  pub undo_none : undo c s ≡ none → (k v : List ℕ) → Pair c k v → set_up c k v ≡ s → ⊥
  undo_none e k v pair q = none_not_found k v (sym e ∙ ap (undo c) (sym q) ∙ set_up_undone c k v pair)

  none_if : (u : Undone) → undo c s ≡ u → ((k v : List ℕ) → Pair c k v → set_up c k v ≡ s → ⊥) → u ≡ none
  none_if none e h = refl
  none_if (found k v) e h = let r = set_up_redone k v e in absurd (h k v r.0 r.1)

  pub none_undo : ((k v : List ℕ) → Pair c k v → set_up c k v ≡ s → ⊥) → undo c s ≡ none
  none_undo h = none_if (undo c s) refl h

pub set_up_unique : (c : Cipher) (k v k' v' : List ℕ) → Pair c k v → Pair c k' v' → set_up c k v ≡ set_up c k' v' → (k ≡ k') × (v ≡ v')
set_up_unique c k v k' v' p q e =
    let same : found k v ≡ found k' v' = sym (set_up_undone c k v p) ∙ ap (undo c) e ∙ set_up_undone c k' v' q in
    let ek : k ≡ k' = cc in
    let ev : v ≡ v' = cc in
    (ek, ev)
