-- A ratio whose second group announces a third is hopeless at that group. Assumes nothing.
use mathlib.Core.Path.{◌≡◌, ap, ◌∙◌}
use mathlib.Core.Bool.{true}
use mathlib.Core.List.{List, [], ◌∷◌, ◌++◌}
use Prim.Native.Nat.{ℕ, suc, ◌+◌, ◌-◌, ◌*◌, ◌≤◌, ◌<◌}
use native.Mathlib.Omega.{arith}
use lib.ListN.{length}
use Rattle.laws.specs.Result.{refused}
use Rattle.laws.proofs.Lists.{append_below, cons_below}
use Rattle.word.specs.Bytes.{AllBytes}
use Rattle.varint.specs.Number.{number}
use Rattle.varint.proofs.Groups.{number_bytes}
use Rattle.volume.specs.declared.Entry.{Entry}
use Rattle.volume.specs.Volume.{in_range, count_range, minutes_range, litres_range, ratio_range, entries_in_range, entries_string}
use Rattle.volume.specs.Calls.{read_value, read_entry}
use Rattle.volume.proofs.Values.{range_holds}
use Rattle.volume.proofs.Undo.{value_back, entry_back, string_cons, range_first, range_others, entries_bytes}
use Rattle.soundness.specs.Soundness.{Fits}
use Rattle.soundness.specs.Found.{hopeless_before, number_soundness, entry_soundness, entries_soundness, volume_soundness}
use Rattle.soundness.proofs.InNumber.{groups_more, groups_beyond, third_refused}
use Rattle.soundness.proofs.InVolume.{volume_fits}
use Rattle.soundness.proofs.Places.{in_entries, all_refused, all_accepted}

-- entries that are whole are passed over
whole_entries : (s : List ℕ) (n : ℕ) (entries : List Entry) (t : List ℕ) → entries_in_range entries ≡ true
    → entries_soundness s (length entries + n) (entries_string entries ++ t) ≡ entries_soundness s n t
unfolding entries_string
whole_entries s n [] t h = let e : 0 + n ≡ n = omega arith in rw e
whole_entries s n (e ∷ entries) t h =
    let more : suc (length entries) + n ≡ suc (length entries + n) = omega arith in
    let back = entry_back e (entries_string entries ++ t) (range_first e entries h) in
    rw (more, string_cons e entries t)
    (all_accepted s (length entries + n) _ _ (rw back) ∙ whole_entries s n entries t (range_others e entries h))

module _ (s rest : List ℕ) (minutes litres b₁ b₂ : ℕ) (m-in : in_range minutes_range minutes ≡ true) (l-in : in_range litres_range litres ≡ true)
    (bytes : AllBytes rest) (h₁ : 128 ≤ b₁) (g₁ : b₁ < 256) (h₂ : 128 ≤ b₂) where
  abbrev entry : List ℕ
  entry = number minutes ++ (number litres ++ (b₁ ∷ b₂ ∷ rest))

  ratio_soundness : number_soundness s ratio_range (b₁ ∷ b₂ ∷ rest) ≡ hopeless_before s rest
  ratio_soundness =
      groups_more s 10000 0 1 b₁ (b₂ ∷ rest) h₁ (omega arith)
      ∙ groups_beyond s 10000 (0 + 1 * (b₁ - 128)) (128 * 1) b₂ rest h₂ (omega arith)

  entry_refused : (m : ℕ) → read_value ratio_range (b₁ ∷ b₂ ∷ rest) ≡ refused m → read_entry entry ≡ refused m
  unfolding read_entry
  entry_refused m e = rw (
    value_back minutes_range (omega arith) minutes (number litres ++ (b₁ ∷ b₂ ∷ rest)) m-in,
    value_back litres_range (omega arith) litres (b₁ ∷ b₂ ∷ rest) l-in,
    e,
  )

  in_ratio : (m : ℕ) → read_value ratio_range (b₁ ∷ b₂ ∷ rest) ≡ refused m → entry_soundness s entry ≡ number_soundness s ratio_range (b₁ ∷ b₂ ∷ rest)
  unfolding entry_soundness
  in_ratio m e = rw (
    value_back minutes_range (omega arith) minutes (number litres ++ (b₁ ∷ b₂ ∷ rest)) m-in,
    value_back litres_range (omega arith) litres (b₁ ∷ b₂ ∷ rest) l-in,
    e,
  )

  in_entry : (n : ℕ) → entries_soundness s (suc n) entry ≡ hopeless_before s rest
  in_entry n =
      let r = third_refused ratio_range b₁ b₂ rest h₁ h₂ bytes (omega arith) in
      let e = entry_refused r.0 r.1 in
      all_refused s n entry r.0 (rw e)
      ∙ in_ratio r.0 r.1
      ∙ ratio_soundness

pub ratio_third : (count : ℕ) (entries : List Entry) (minutes litres b₁ b₂ : ℕ) (rest : List ℕ) → count ≤ 2000 → length entries < count
    → entries_in_range entries ≡ true → in_range minutes_range minutes ≡ true → in_range litres_range litres ≡ true
    → 128 ≤ b₁ → b₁ < 256 → 128 ≤ b₂ → b₂ < 256 → AllBytes rest →
    let string = number count ++ (entries_string entries ++ (number minutes ++ (number litres ++ (b₁ ∷ b₂ ∷ rest)))) in
    Fits string (hopeless_before string rest)
ratio_third count entries minutes litres b₁ b₂ rest c l h m-in l-in h₁ g₁ h₂ g₂ bytes =
    let last = number minutes ++ (number litres ++ (b₁ ∷ b₂ ∷ rest)) in
    let s = number count ++ (entries_string entries ++ last) in
    let last_bytes : AllBytes last =
    append_below (number minutes) _ (number_bytes minutes)
    (append_below (number litres) _ (number_bytes litres) (cons_below (b₂ ∷ rest) g₁ (cons_below rest g₂ bytes))) in
    let s_bytes : AllBytes s =
    append_below (number count) _ (number_bytes count) (append_below (entries_string entries) last (entries_bytes entries) last_bytes) in
    let n = count - suc (length entries) in
    let left : count ≡ length entries + suc n = omega arith in
    let e : volume_soundness s ≡ hopeless_before s rest =
    in_entries s (record { value = count; rest = entries_string entries ++ last })
    (value_back count_range (omega arith) count (entries_string entries ++ last) (range_holds 0 2000 count (omega arith) c))
    ∙ ap (λ (k : ℕ). entries_soundness s k (entries_string entries ++ last)) left
    ∙ whole_entries s (suc n) entries last h
    ∙ in_entry s rest minutes litres b₁ b₂ m-in l-in bytes h₁ g₁ h₂ n in
    rw e at (volume_fits s s_bytes)
