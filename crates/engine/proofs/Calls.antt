-- What a call leaves, by the outcome of its conditions. Assumes nothing.
use mathlib.Core.Path.{◌≡◌, refl, sym, ◌∙◌}
use mathlib.Core.Bool.{Bool, true, false}
use mathlib.Core.List.{List, ◌++◌}
use Prim.Native.Nat.{ℕ, zero, suc, ◌+◌, ◌-◌, ◌/◌, ◌≤◌, ◌<◌, max}
use native.Mathlib.Nat.{le-max_right, max-eq_left}
use native.Mathlib.Omega.{arith}
use borrow.Author.Tests.{eq-eqb, ne_eqb, le-leb, lt-leb}
use lib.IntN.{ℤ}
use Rattle.std.specs.Prelude.{cond, Ok, Err}
use lib.ListN.{length, take, drop, replicate}
use lib.Seq.{length-take-le}
use Rattle.laws.proofs.Lists.{take_below, drop_below, part_length}
use Rattle.word.specs.Bytes.{bytes, words, AllWords}
use Rattle.word.proofs.Bytes.{words_bytes}
use Rattle.cipher.specs.declared.Cipher.{Cipher}
use Rattle.cipher.specs.Numbers.{code_of, key_length, iv_length}
use Rattle.cipher.proofs.Sizes.{sizes}
use Rattle.keys.specs.Key.{key_of, iv_of}
use Rattle.schedule.specs.Origin.{origin, is_filled}
use Rattle.steps.specs.Steps.{moved, last_output, word_at}
use Rattle.keystream.specs.Keystream.{CipheredFrom}
use Rattle.keystream.proofs.Positions.{moved_on}
use Rattle.volume.specs.declared.Entry.{Entry}
use Rattle.volume.specs.Calls.{entries_in, check_volume}
use Rattle.setup.specs.SetUp as SetUp
use Rattle.checkpoint.specs.Checkpoint.{layout, length_of}
use Rattle.recovery.specs.Recovery.{filled_at, found_at}
use Rattle.engine.specs.declared.Head.{Head}
use Rattle.laws.specs.Result.{Result, refused, accepted, ◌>>◌}
use Rattle.laws.proofs.Results.{no_refusal}
use Rattle.conditions.specs.Limit.{limit}
use Rattle.engine.specs.Head.{head_at, mark_after}
use Rattle.conditions.specs.Conditions.{set_up_check, head_check, cipher_check, end_of, move_check, recover_check, undo_at, load_found, load_check}
use Rattle.conditions.proofs.Undo.{none_at}
use Rattle.conditions.proofs.Undo as Undo
use Rattle.engine.specs.Calls.{engine_of, head_ready, set_up, set_up_call, cipher, cipher_call, encipher_volume, encipher_volume_call, move, move_call, write, write_call, checkpoint_length, checkpoint_length_call, recover, recover_call, eight_words, load, load_call, spent, spent_call}

module _ (h : Head) (code : ℕ) (key iv area : List ℕ) where
  pub set_up_refused : (n : ℕ) → set_up_check code (length key) (length iv) (length area) ≡ refused n
      → record { refusal = n; value = engine_of h area } ≡ set_up_call h code key iv area
  unfolding set_up_call set_up
  set_up_refused n e = rw e

  pub set_up_done : (c : Cipher) (new : Head) (s : List ℕ) → set_up_check code (length key) (length iv) (length area) ≡ accepted c
      → new ≡ head_at code 0 0 0 → s ≡ SetUp.set_up c key iv
      → record { refusal = 0; value = engine_of new s } ≡ set_up_call h code key iv area
  unfolding set_up_call set_up last_output
  set_up_done c new s e p q = rw (e, p, q)

-- the mark after a cipher call of n bytes
module _ (mark end : ℕ) where
  pub mark_left : (n : ℕ) → n ≡ 0 → mark ≡ mark_after mark end n
  unfolding mark_after
  mark_left n e = rw e

  pub mark_raised : (n : ℕ) → (n ≡ 0 → ⊥) → max mark end ≡ mark_after mark end n
  unfolding mark_after
  mark_raised zero z = absurd (z refl)
  mark_raised (suc n) z = refl

  -- the same call once more leaves it
  pub mark_again : (n : ℕ) → mark_after (mark_after mark end n) end n ≡ mark_after mark end n
  unfolding mark_after
  mark_again zero = refl
  mark_again (suc n) = max-eq_left (le-max_right mark end)

module _ (h : Head) (area bytes : List ℕ) where
  pub cipher_refused : (n : ℕ) → head_ready h area ≡ refused n
      → record { refusal = n; value = record { engine = engine_of h area; bytes = bytes } } ≡ cipher_call h area bytes
  unfolding cipher_call cipher cipher_check
  cipher_refused n e = rw e

  module _ (c : Cipher) (e : head_ready h area ≡ accepted c) where
    pub cipher_past : limit < h.position + length bytes
        → record { refusal = 6; value = record { engine = engine_of h area; bytes = bytes } } ≡ cipher_call h area bytes
    unfolding cipher_call cipher cipher_check
    cipher_past l = rw (e, lt-leb (h.position + length bytes) limit l)

    pub cipher_done : (new : Head) (s bs : List ℕ) (word mark : ℕ) → h.position + length bytes ≤ limit
        → new ≡ head_at h.code (h.position + length bytes) word mark → CipheredFrom c area h.position bytes s bs word
        → mark ≡ mark_after h.mark (h.position + length bytes) (length bytes)
        → record { refusal = 0; value = record { engine = engine_of new s; bytes = bs } } ≡ cipher_call h area bytes
    unfolding cipher_call cipher cipher_check
    cipher_done new s bs word mark l p w m =
        rw (e, le-leb (h.position + length bytes) limit l, p, m, w.2, w.0, w.1, moved_on c area h.position (length bytes))

-- whether a result is accepted, and nothing of what it gives
none_given : {A : Type 0} (r : Result A) → ((n : ℕ) → (r >> accepted (tt {0})) ≡ refused n → r ≡ refused n)
    × ((r >> accepted (tt {0})) ≡ accepted (tt {0}) → (a : A) × (r ≡ accepted a))
none_given (refused m) = ((λ n e. cc), λ e. no_refusal (sym e))
none_given (accepted a) = ((λ n e. no_refusal e), λ e. (a, refl))

module _ (h : Head) (area volume : List ℕ) where
  pub encipher_refused : (n : ℕ) → check_volume volume ≡ refused n
      → record { refusal = n; value = record { engine = engine_of h area; bytes = volume } } ≡ encipher_volume_call h area volume
  unfolding encipher_volume_call encipher_volume check_volume
  encipher_refused n e = rw ((none_given (entries_in volume)).0 n e)

  -- once the volume is read it is the cipher call
  pub encipher_ciphers : (entries : List Entry) → entries_in volume ≡ accepted entries → cipher_call h area volume ≡ encipher_volume_call h area volume
  unfolding encipher_volume_call encipher_volume cipher_call
  encipher_ciphers entries e = rw e

  pub encipher_checked : check_volume volume ≡ accepted (tt {0}) → cipher_call h area volume ≡ encipher_volume_call h area volume
  unfolding check_volume
  encipher_checked e = let (entries, read) = (none_given (entries_in volume)).1 e in encipher_ciphers entries read

module _ (h : Head) (area : List ℕ) (d : ℤ) where
  pub move_refused : (n : ℕ) → head_ready h area ≡ refused n
      → record { refusal = n; value = engine_of h area } ≡ move_call h area d
  unfolding move_call move move_check
  move_refused n e = rw e

  module _ (c : Cipher) (e : head_ready h area ≡ accepted c) where
    pub move_unreached : (n : ℕ) → end_of h.position d ≡ refused n
        → record { refusal = n; value = engine_of h area } ≡ move_call h area d
    unfolding move_call move move_check
    move_unreached n x = rw (e, x)

    pub move_done : (q : ℕ) (new : Head) (s : List ℕ) (word : ℕ) → end_of h.position d ≡ accepted q → new ≡ head_at h.code q word h.mark
        → s ≡ moved c area h.position q → word ≡ word_at c s q → record { refusal = 0; value = engine_of new s } ≡ move_call h area d
    unfolding move_call move move_check
    move_done q new s word x p w v = rw (e, x, p, v, w)

module _ (h : Head) (area lent : List ℕ) where
  pub write_refused : (n : ℕ) → head_ready h area ≡ refused n
      → record { refusal = n; value = record { engine = engine_of h area; length = 0; lent = lent } } ≡ write_call h area lent
  unfolding write_call write
  write_refused n e = rw e

  module _ (c : Cipher) (e : head_ready h area ≡ accepted c) where
    pub write_small : length lent < length_of c h.position
        → record { refusal = 8; value = record { engine = engine_of h area; length = 0; lent = lent } } ≡ write_call h area lent
    unfolding write_call write
    write_small l = rw (e, lt-leb (length_of c h.position) (length lent) l)

    pub write_done : (n : ℕ) (lent' : List ℕ) → n ≡ length_of c h.position → n ≤ length lent
        → lent' ≡ layout c h.position area ++ drop (length (layout c h.position area)) lent
        → record { refusal = 0; value = record { engine = engine_of h area; length = n; lent = lent' } } ≡ write_call h area lent
    unfolding write_call write
    write_done n lent' p l q = rw (e, p, q, le-leb (length_of c h.position) (length lent) (omega arith))

module _ (code position : ℕ) where
  pub length_refused : (n : ℕ) → head_check code position ≡ refused n → record { refusal = n; value = 0 } ≡ checkpoint_length_call code position
  unfolding checkpoint_length_call checkpoint_length
  length_refused n e = rw e

  pub length_told : (c : Cipher) → head_check code position ≡ accepted c → (n : ℕ) → n ≡ length_of c position
      → record { refusal = 0; value = n } ≡ checkpoint_length_call code position
  unfolding checkpoint_length_call checkpoint_length
  length_told c e n p = rw (e, p)

-- the key and the IV of the words that the tables lead back to
module _ (c : Cipher) (s : List ℕ) (position : ℕ) where
  undone_if : (t : Bool) (o : List ℕ) → (t ≡ false → undo_at c s position ≡ SetUp.none)
      → (t ≡ true → undo_at c s position ≡ SetUp.found (key_of c o) (iv_of c o))
      → ((w : List ℕ) → cond t (Ok o) (Err o) ≡ Err w → undo_at c s position ≡ SetUp.none)
      × ((w : List ℕ) → cond t (Ok o) (Err o) ≡ Ok w → undo_at c s position ≡ SetUp.found (key_of c w) (iv_of c w))
  undone_if true o f g = (λ w e. absurd (cc), λ w e. let q : o ≡ w = cc in rw (← q) (g refl))
  undone_if false o f g = (λ w e. f refl, λ w e. absurd (cc))

  abbrev led : List ℕ
  led = filled_at c s position

  pub no_pair : (w : List ℕ) → found_at c s position ≡ Err w → undo_at c s position ≡ SetUp.none
  no_pair = (undone_if (is_filled c led) (origin c led) (none_at c s position) (Undo.found_at c s position)).0

  pub pair_of : (w : List ℕ) → found_at c s position ≡ Ok w → undo_at c s position ≡ SetUp.found (key_of c w) (iv_of c w)
  pair_of = (undone_if (is_filled c led) (origin c led) (none_at c s position) (Undo.found_at c s position)).1

module _ (h : Head) (area key iv : List ℕ) where
  pub recover_refused : (n : ℕ) → head_ready h area ≡ refused n
      → record { refusal = n; value = record { engine = engine_of h area; key = key; iv = iv } } ≡ recover_call h area key iv
  unfolding recover_call recover recover_check
  recover_refused n e = rw e

  module _ (c : Cipher) (e : head_ready h area ≡ accepted c) where
    pub recover_key : (length key ≡ key_length c → ⊥)
        → record { refusal = 2; value = record { engine = engine_of h area; key = key; iv = iv } } ≡ recover_call h area key iv
    unfolding recover_call recover recover_check
    recover_key k = rw (e, ne_eqb (length key) (key_length c) k)

    pub recover_iv : length key ≡ key_length c → (length iv ≡ iv_length c → ⊥)
        → record { refusal = 3; value = record { engine = engine_of h area; key = key; iv = iv } } ≡ recover_call h area key iv
    unfolding recover_call recover recover_check
    recover_iv k v = rw (e, eq-eqb (length key) (key_length c) k, ne_eqb (length iv) (iv_length c) v)

    module _ (k : length key ≡ key_length c) (v : length iv ≡ iv_length c) where
      pub recover_none : (w : List ℕ) → found_at c area h.position ≡ Err w
          → record { refusal = 12; value = record { engine = engine_of h area; key = key; iv = iv } } ≡ recover_call h area key iv
      unfolding recover_call recover recover_check
      recover_none w f =
          rw (e, eq-eqb (length key) (key_length c) k, eq-eqb (length iv) (iv_length c) v, no_pair c area h.position w f)

      pub recover_done : (w key' iv' : List ℕ) → found_at c area h.position ≡ Ok w → key' ≡ key_of c w → iv' ≡ iv_of c w
          → record { refusal = 0; value = record { engine = engine_of h area; key = key'; iv = iv' } } ≡ recover_call h area key iv
      unfolding recover_call recover recover_check
      recover_done w key' iv' f p q =
          rw (e, eq-eqb (length key) (key_length c) k, eq-eqb (length iv) (iv_length c) v, pair_of c area h.position w f, p, q)

-- eight words of a key or an IV, made of the sixteen words that it was recovered from
eight_words_lem : (w : List ℕ) (n : ℕ) → AllWords w → length w ≡ n → w ++ replicate (8 - n) 0 ≡ eight_words (bytes w)
eight_words_lem w n ok e = rw (words_bytes w ok, e)

module _ (c : Cipher) (w : List ℕ) (ok : AllWords w) (sixteen : length w ≡ 16) where
  pub key_words : (k : ℕ) (x : List ℕ) → k ≡ key_length c → x ≡ take (k / 4) (drop 0 w) ++ replicate (8 - k / 4) 0 → x ≡ eight_words (key_of c w)
  unfolding key_of
  key_words k x q p =
      let z = sizes c in
      p
      ∙ eight_words_lem (take (k / 4) w) (k / 4) (take_below (k / 4) w ok) (length-take-le (k / 4) w (omega arith))
      ∙ rw q

  pub iv_words : (v : ℕ) (x : List ℕ) → v ≡ iv_length c → x ≡ take (v / 4) (drop 8 w) ++ replicate (8 - v / 4) 0 → x ≡ eight_words (iv_of c w)
  unfolding iv_of
  iv_words v x q p =
      let z = sizes c in
      p
      ∙ eight_words_lem (take (v / 4) (drop 8 w)) (v / 4) (take_below (v / 4) (drop 8 w) (drop_below 8 w ok)) (part_length (v / 4) 8 w (omega arith))
      ∙ rw q

module _ (h : Head) (string area : List ℕ) where
  pub load_refused : (n : ℕ) → load_check string (length area) ≡ refused n
      → record {
        refusal = n;
        value = record { engine = engine_of h area; key = replicate 8 0; iv = replicate 8 0 };
      }
      ≡ load_call h string area
  unfolding load_call load
  load_refused n e = rw e

  module _ (c : Cipher) (position : ℕ) (rest : List ℕ) (e : load_check string (length area) ≡ load_found c position rest) where
    pub load_none : (w : List ℕ) → found_at c (words rest) position ≡ Err w
        → record {
          refusal = 12;
          value = record { engine = engine_of h area; key = replicate 8 0; iv = replicate 8 0 };
        }
        ≡ load_call h string area
    load_none w f = load_refused 12 (e ∙ rw (no_pair c (words rest) position w f))

    pub load_done : (new : Head) (s key iv w : List ℕ) (word : ℕ) → found_at c (words rest) position ≡ Ok w
        → new ≡ head_at (code_of c) position word position → s ≡ words rest → word ≡ word_at c s position
        → key ≡ eight_words (key_of c w) → iv ≡ eight_words (iv_of c w)
        → record { refusal = 0; value = record { engine = engine_of new s; key = key; iv = iv } } ≡ load_call h string area
    unfolding load_call load
    load_done new s key iv w word f p q r k v = rw (e, pair_of c (words rest) position w f, p, r, q, k, v)

module _ (h : Head) where
  pub spent_refused : (n : ℕ) → head_check h.code h.position ≡ refused n
      → record { refusal = n; value = record { head = h; count = 0 } } ≡ spent_call h
  unfolding spent_call spent
  spent_refused n e = rw e

  pub spent_done : (c : Cipher) → head_check h.code h.position ≡ accepted c
      → record { refusal = 0; value = record { head = h; count = h.mark } } ≡ spent_call h
  unfolding spent_call spent
  spent_done c e = rw e
