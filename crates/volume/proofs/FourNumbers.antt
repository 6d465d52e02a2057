-- An entry from its four numbers, in reading order. Assumes nothing.
use mathlib.Core.Path.{◌≡◌, refl, sym, ◌∙◌}
use mathlib.Core.List.{List}
use Prim.Native.Nat.{ℕ}
use lib.ListN.{drop}
use Rattle.laws.specs.Result.{accepted, ◌>>=◌}
use Rattle.laws.proofs.Results.{after_line, no_refusal, accepted_one}
use Rattle.varint.specs.declared.Found.{Found}
use Rattle.volume.specs.Volume.{minutes_range, litres_range, ratio_range, product_range}
use Rattle.volume.specs.Calls.{ValueRead, EntryRead, read_value, read_entry}
use Rattle.volume.specs.Found.{NumberReadAgain, EntryReadAgain}

-- the entry of four numbers that were read
abbrev pub entry_of : (minutes litres ratio product : ValueRead) → EntryRead
entry_of minutes litres ratio product =
    record {
      entry = record { minutes = minutes.value; litres = litres.value; ratio = ratio.value; product = product.value };
      rest = product.rest;
    }

entry_lines : (string : List ℕ)
    → read_entry string ≡ (read_value minutes_range string
    >>= λ minutes. read_value litres_range minutes.rest
    >>= λ litres. read_value ratio_range litres.rest
    >>= λ ratio. read_value product_range ratio.rest
    >>= λ product. accepted (entry_of minutes litres ratio product))
unfolding read_entry
entry_lines string = refl

pub record Four (string : List ℕ) (found : EntryRead) : Type 0 where
  pub minutes : ValueRead
  pub litres : ValueRead
  pub ratio : ValueRead
  pub product : ValueRead
  pub is_minutes : read_value minutes_range string ≡ accepted minutes
  pub is_litres : read_value litres_range minutes.rest ≡ accepted litres
  pub is_ratio : read_value ratio_range litres.rest ≡ accepted ratio
  pub is_product : read_value product_range ratio.rest ≡ accepted product
  pub entry_is_lem : found ≡ entry_of minutes litres ratio product

pub entry_four : (string : List ℕ) (found : EntryRead) → read_entry string ≡ accepted found → Four string found
entry_four string found e =
    after_line (read_value minutes_range string) _ (sym (entry_lines string) ∙ e) (λ n q _. no_refusal q) (λ minutes p₁ q₁.
    after_line (read_value litres_range minutes.rest) _ q₁ (λ n q _. no_refusal q) (λ litres p₂ q₂.
    after_line (read_value ratio_range litres.rest) _ q₂ (λ n q _. no_refusal q) (λ ratio p₃ q₃.
    after_line (read_value product_range ratio.rest) _ q₃ (λ n q _. no_refusal q) (λ product p₄ q₄.
    record {
      minutes = minutes;
      litres = litres;
      ratio = ratio;
      product = product;
      is_minutes = p₁;
      is_litres = p₂;
      is_ratio = p₃;
      is_product = p₄;
      entry_is_lem = sym (accepted_one refl q₄);
    }))))

-- the four numbers read again are those of the entry
pub entry_again : (string : List ℕ) (at : ℕ) (minutes litres ratio product : Found ℕ)
    → NumberReadAgain string at minutes → NumberReadAgain string minutes.next litres → NumberReadAgain string litres.next ratio
    → NumberReadAgain string ratio.next product
    → EntryReadAgain string at (record {
      value = record { minutes = minutes.value; litres = litres.value; ratio = ratio.value; product = product.value };
      next = product.next;
    })
entry_again string at minutes litres ratio product is_minutes is_litres is_ratio is_product found e =
    let f = entry_four (drop at string) found e in
    let m = is_minutes minutes_range f.minutes f.is_minutes in
    let l = is_litres litres_range f.litres (rw m at f.is_litres) in
    let r = is_ratio ratio_range f.ratio (rw l at f.is_ratio) in
    let p = is_product product_range f.product (rw r at f.is_product) in
    f.entry_is_lem ∙ rw (m, l, r, p)
