-- The words of a string from a place on, read one by one. Assumes nothing.
use Rattle.std.proofs.Common.{◌≡◌, ℕ, ◌+◌, ◌*◌, ◌<◌, ◌≤◌, List, length, get_or, drop, sym, ◌∙◌, arith, length-drop}
use Rattle.std.proofs.Math.ListN.{set}
use lib.Seq.{ext_get_or, get_or-drop}
use native.Mathlib.Nat.{add_assoc}
use Rattle.laws.proofs.Lists.{filled_more}
use Rattle.word.specs.Bytes.{word, words}
use Rattle.word.proofs.Bytes.{words_at, length_words}

module _ (string area : List ℕ) (from : ℕ) (fits : from + 4 * length area ≡ length string) where
  -- the first n words of the area are those of the string
  abbrev Read : List ℕ → ℕ → Type 0
  Read l n = (k : ℕ) → k < n → get_or l k 0 ≡ get_or (words (drop from string)) k 0

  pub word_read : (j v : ℕ) → j < length area
      → v ≡ word (get_or string (from + 4 * j) 0) (get_or string (from + 4 * j + 1) 0) (get_or string (from + 4 * j + 2) 0) (get_or string (from + 4 * j + 3) 0)
      → Read area j → Read (set area j v) (j + 1)
  word_read j v h e =
      let l : 4 * j + 3 < length (drop from string) = rw length-drop (omega arith) in
      let w : get_or (words (drop from string)) j 0
      ≡ word (get_or string (from + 4 * j) 0) (get_or string (from + 4 * j + 1) 0) (get_or string (from + 4 * j + 2) 0) (get_or string (from + 4 * j + 3) 0) =
      simp (words_at, get_or-drop, add_assoc) in
      filled_more (λ (k : ℕ). get_or (words (drop from string)) k 0) area j v h (e ∙ sym w)

  pub all_read : (n : ℕ) → length area ≤ n → Read area n → area ≡ words (drop from string)
  all_read n h read =
      let e : length (words (drop from string)) ≡ length area = length_words (length area) (drop from string) (rw length-drop (omega arith)) in
      ext_get_or 0 area (words (drop from string)) (sym e) (λ k l. read k (omega arith))
