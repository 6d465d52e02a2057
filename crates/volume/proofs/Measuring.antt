-- Entries out of a list of numbers, measured and written one after the other. Assumes nothing.
use mathlib.Core.Path.{◌≡◌, refl, sym, ap, ◌∙◌}
use mathlib.Core.Bool.{Bool, true, false, not, ◌&&◌}
use mathlib.Core.List.{List, [], ◌∷◌, ◌++◌}
use Prim.Native.Nat.{ℕ, ◌+◌, ◌<◌, ◌≤◌}
use native.Mathlib.Omega.{arith}
use lib.ListN.{length, length-append}
use lib.Seq.{sets}
use Rattle.laws.specs.Result.{refused, accepted}
use Rattle.laws.proofs.Same.{not-true, not-false}
use Rattle.laws.proofs.Stores.{sets_append}
use Rattle.varint.specs.Number.{number}
use Rattle.volume.specs.declared.Entry.{Entry}
use Rattle.volume.specs.Volume.{entry_in_range, entries_in_range, entry_string, entries_string, four_numbers, entries_of}
use Rattle.volume.specs.Found.{entries_length}

-- an entry's bytes are those of its four numbers
pub entry_length : (e : Entry)
    → length (entry_string e) ≡ length (number e.minutes) + length (number e.litres) + length (number e.ratio) + length (number e.product)
unfolding entry_string
entry_length e =
    rw (
      length-append (number e.minutes ++ number e.litres ++ number e.ratio) (number e.product),
      length-append (number e.minutes ++ number e.litres) (number e.ratio),
      length-append (number e.minutes) (number e.litres),
    )

pub entry_stored : (lent : List ℕ) (at : ℕ) (e : Entry)
    → sets lent at (entry_string e)
    ≡ sets (sets (sets (sets lent at (number e.minutes)) (at + length (number e.minutes)) (number e.litres))
    (at + length (number e.minutes) + length (number e.litres)) (number e.ratio))
    (at + length (number e.minutes) + length (number e.litres) + length (number e.ratio)) (number e.product)
unfolding entry_string
entry_stored lent at e =
    let m = number e.minutes in
    let l = number e.litres in
    let r = number e.ratio in
    let p = number e.product in
    let two : at + length (m ++ l) ≡ at + length m + length l = omega (arith, length-append m l) in
    let three : at + length (m ++ l ++ r) ≡ at + length m + length l + length r = omega (arith, length-append m l, length-append (m ++ l) r) in
    rw (sets_append lent at (m ++ l ++ r) p, sets_append lent at (m ++ l) r, sets_append lent at m l, two, three)

-- ---- the numbers from an entry on are its four and those after them

pub four_and_rest : {before numbers rest : List ℕ} {e : Entry} → before ≡ numbers ++ rest → numbers ≡ four_numbers e → before ≡ four_numbers e ++ rest
four_and_rest {rest = rest} parts four = parts ∙ ap (λ (x : List ℕ). x ++ rest) four

range_more : (e : Entry) (rest : List ℕ) → entries_in_range (entries_of (four_numbers e ++ rest)) ≡ entry_in_range e && entries_in_range (entries_of rest)
unfolding entries_of entries_in_range
range_more e rest = refl

string_more : (e : Entry) (rest : List ℕ) → entries_string (entries_of (four_numbers e ++ rest)) ≡ entry_string e ++ entries_string (entries_of rest)
unfolding entries_of entries_string
string_more e rest = refl

length_more : (e : Entry) (rest : List ℕ)
    → length (entries_string (entries_of (four_numbers e ++ rest))) ≡ length (entry_string e) + length (entries_string (entries_of rest))
length_more e rest = ap length (string_more e rest) ∙ length-append (entry_string e) (entries_string (entries_of rest))

-- fewer than four numbers make no entry
none_left : (rest : List ℕ) → length rest < 4 → entries_of rest ≡ []
unfolding entries_of
none_left [] h = refl
none_left (a ∷ []) h = refl
none_left (a ∷ b ∷ []) h = refl
none_left (a ∷ b ∷ c ∷ []) h = refl
none_left (a ∷ b ∷ c ∷ d ∷ rest) h = absurd (omega arith)

string_none : (rest : List ℕ) → length rest < 4 → entries_string (entries_of rest) ≡ []
unfolding entries_string
string_none rest h = rw (none_left rest h)

range_none : (rest : List ℕ) → length rest < 4 → entries_in_range (entries_of rest) ≡ true
unfolding entries_in_range
range_none rest h = rw (none_left rest h)

module _ (list : List ℕ) where
  -- ---- measuring: the entries before the numbers that are left are in range and take so many bytes

  pub record Measured (rest : List ℕ) (bytes : ℕ) : Type 0 where
    pub in_range_lem : entries_in_range (entries_of list) ≡ entries_in_range (entries_of rest)
    pub bytes_are : bytes + length (entries_string (entries_of rest)) ≡ length (entries_string (entries_of list))

  pub measured_none : Measured list 0
  measured_none = record { in_range_lem = refl; bytes_are = omega arith }

  module _ (before : List ℕ) (bytes : ℕ) (m : Measured before bytes) where
    -- the entry as the code has it, and whether it is in range
    module _ (e : Entry) (rest : List ℕ) (e-is : before ≡ four_numbers e ++ rest) (r : Bool) (r-is : r ≡ entry_in_range e) where
      next_range : (b : Bool) → r ≡ b → entries_in_range (entries_of list) ≡ b && entries_in_range (entries_of rest)
      next_range b t =
          m.in_range_lem ∙ rw e-is (range_more e rest) ∙ ap (λ (x : Bool). x && entries_in_range (entries_of rest)) (sym r-is ∙ t)

      pub measured_more : (b : ℕ) → not r ≡ false → b ≡ length (entry_string e) → Measured rest (bytes + b)
      measured_more b t n =
          let s : length (entries_string (entries_of before)) ≡ length (entry_string e) + length (entries_string (entries_of rest)) =
          rw e-is (length_more e rest) in
          record { in_range_lem = next_range true (not-false r t); bytes_are = omega (arith, m.bytes_are) }

      pub measured_refused : not r ≡ true → entries_length (entries_of list) ≡ refused 15
      unfolding entries_length
      measured_refused t = rw (next_range false (not-true r t))

    pub measured_all : length before < 4 → entries_length (entries_of list) ≡ accepted bytes
    unfolding entries_length
    measured_all l =
        let e : entries_in_range (entries_of list) ≡ true = m.in_range_lem ∙ range_none before l in
        let s = ap length (string_none before l) in
        let b : length (entries_string (entries_of list)) ≡ bytes = omega (arith, m.bytes_are) in
        rw (e, b)

  -- ---- writing: the entries before the numbers that are left are written, up to place `at`

  module _ (lent₀ : List ℕ) (first : ℕ) where
    pub record Put (rest : List ℕ) (at : ℕ) (lent : List ℕ) : Type 0 where
      pub length_is : length lent ≡ length lent₀
      pub place_is : at + length (entries_string (entries_of rest)) ≡ first + length (entries_string (entries_of list))
      pub goal_is : sets lent at (entries_string (entries_of rest)) ≡ sets lent₀ first (entries_string (entries_of list))

    pub put_none : Put list first lent₀
    put_none = record { length_is = refl; place_is = refl; goal_is = refl }

    module _ (before : List ℕ) (at : ℕ) (lent : List ℕ) (p : Put before at lent) where
      module _ (e : Entry) (rest : List ℕ) (e-is : before ≡ four_numbers e ++ rest) where
        next_string : entries_string (entries_of before) ≡ entry_string e ++ entries_string (entries_of rest)
        next_string = rw e-is (string_more e rest)

        next_length : length (entries_string (entries_of before)) ≡ length (entry_string e) + length (entries_string (entries_of rest))
        next_length = rw e-is (length_more e rest)

        pub put_room : first + length (entries_string (entries_of list)) ≤ length lent₀ → at + length (entry_string e) ≤ length lent
        put_room h = omega (arith, next_length, p.place_is, p.length_is)

        pub put_more : (next : ℕ) (after : List ℕ) → length after ≡ length lent → next ≡ at + length (entry_string e)
            → after ≡ sets lent at (entry_string e) → Put rest next after
        put_more next after z n q = record {
          length_is = z ∙ p.length_is;
          place_is = omega (arith, next_length, p.place_is);
          goal_is = rw (n, q) (sym (sets_append lent at (entry_string e) (entries_string (entries_of rest))) ∙ ap (sets lent at) (sym next_string) ∙ p.goal_is);
        }

      pub put_all : length before < 4 → lent ≡ sets lent₀ first (entries_string (entries_of list))
      put_all l = ap (sets lent at) (sym (string_none before l)) ∙ p.goal_is
