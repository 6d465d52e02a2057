-- Document 02 (h), a test load that can be repeated: each generated call is accepted; the checkpoint at the end is the one of that cipher, key, IV and
-- the position counted from the words alone; for the account and the mark the load is the set up and the generated calls; and each refusal.
use Rattle.std.specs.Prelude.{◌≡◌, List, [], ◌∷◌, ◌++◌, ◌↔◌, ℕ, ◌+◌, ◌*◌, ◌^◌, ◌≤◌, ◌<◌, length, take, replicate}
use Rattle.laws.specs.Result.{refused, accepted}
use Rattle.word.specs.Bytes.{AllBytes}
use Rattle.cipher.specs.declared.Cipher.{Cipher}
use Rattle.cipher.specs.Numbers.{code_of, area_length}
use Rattle.keys.specs.Key.{Pair}
use Rattle.checkpoint.specs.Checkpoint.{length_of}
use Rattle.engine.specs.Calls.{Engine, Written, set_up, write, spent}
use Rattle.move_to.specs.MoveTo.{distance}
use Rattle.test_load.specs.Words.{next_word, GeneratedCall, move_to_byte, cipher_zeros, generated_calls}
use Rattle.test_load.specs.TestLoad.{test_load}
use Rattle.theorems.specs.Account.{Call, call_set_up, call_cipher, call_move, call_test_load, AllGiven, called, answered, run, Four, Account, holds, feed, account, engine_after, account_after, engine_of_four, Checkpoint}
use Rattle.theorems.specs.Farthest.{with_end, reached_by, reached_since, largest, farthest_after}
use Rattle.theorems.specs.Demand3.{given}

-- ── counted from the words alone ──

-- where a generated call ends that begins at a position
abbrev pub end_of_call : (position : ℕ) → GeneratedCall → ℕ
end_of_call position (move_to_byte byte) = byte
end_of_call position (cipher_zeros n) = position + n

-- where calls end, one after the other, the first of which begins at a position
unfoldable pub end_of_calls : (position : ℕ) → List GeneratedCall → ℕ
end_of_calls position [] = position
end_of_calls position (call ∷ calls) = end_of_calls (end_of_call position call) calls

-- the ends of the cipher calls of one byte or more among them
unfoldable pub ends_of_ciphers : (position : ℕ) → List GeneratedCall → List ℕ
ends_of_ciphers position [] = []
ends_of_ciphers position (move_to_byte byte ∷ calls) = ends_of_ciphers byte calls
ends_of_ciphers position (cipher_zeros n ∷ calls) = with_end n (position + n) (ends_of_ciphers (position + n) calls)

-- 'the position counted from the words alone', and the mark: the farthest byte that a cipher call reached, from 0 on
abbrev pub position_after : (seed count : ℕ) → ℕ
position_after seed count = end_of_calls 0 (generated_calls seed count)

abbrev pub mark_after_load : (seed count : ℕ) → ℕ
mark_after_load seed count = largest (ends_of_ciphers 0 (generated_calls seed count))

-- 'that cipher, key, IV and the position counted from the words alone'
abbrev pub four_after : (seed count : ℕ) → Cipher → (key iv : List ℕ) → Four
four_after seed count c key iv = record { cipher = c; key = key; iv = iv; position = position_after seed count }

-- ── the load as calls of a list ──

-- a generated call that begins at a position, as a call of a list: a move is by the signed distance to its byte
abbrev pub as_call : (position : ℕ) → GeneratedCall → Call
as_call position (move_to_byte byte) = call_move (distance position byte)
as_call position (cipher_zeros n) = call_cipher (replicate n 0)

unfoldable pub as_calls : (position : ℕ) → List GeneratedCall → List Call
as_calls position [] = []
as_calls position (call ∷ calls) = as_call position call ∷ as_calls (end_of_call position call) calls

-- 'that set-up and those calls'
abbrev pub set_up_and_calls : (seed count code : ℕ) (key iv : List ℕ) → List Call
set_up_and_calls seed count code key iv = call_set_up code key iv ∷ as_calls 0 (generated_calls seed count)

-- each call of a list is accepted, where each gets what the one before it left
abbrev pub EachAccepted : Engine → List Call → Type 0
EachAccepted e [] = Unit {0}
EachAccepted e (call ∷ calls) = (answered e call ≡ 0) × EachAccepted (called e call) calls

pub record TestLoad : Type 0 where
  -- 'It refuses a seed of 0 with 17, then a count over 1,000 with 18, both before the refusals of set-up': each number is given exactly where it is
  -- due, and for the rest the load is refused exactly as set up is.
  pub refused_17 : (seed count code : ℕ) (key iv area : List ℕ) → (test_load seed count code key iv area ≡ refused 17) ↔ (seed ≡ 0)
  pub refused_18 :
      (seed count code : ℕ) (key iv area : List ℕ)
      → (test_load seed count code key iv area ≡ refused 18) ↔ ((seed ≡ 0 → ⊥) × (1000 < count))
  pub refused_as_set_up :
      (seed count code : ℕ) (key iv area : List ℕ) (n : ℕ) → (seed ≡ 0 → ⊥) → count ≤ 1000
      → (test_load seed count code key iv area ≡ refused n) ↔ (set_up code key iv area ≡ refused n)
  -- It is accepted for every seed but 0, every count up to 1,000, every cipher, key and IV, on every area of the cipher's size, and leaves head and
  -- tables of the four, and as the mark the farthest byte, all counted from the words alone; it is accepted nowhere else.
  pub leaves :
      (seed count : ℕ) (c : Cipher) (key iv area : List ℕ) → (seed ≡ 0 → ⊥) → count ≤ 1000 → Pair c key iv → length area ≡ area_length c
      → test_load seed count (code_of c) key iv area ≡ accepted (engine_of_four (four_after seed count c key iv) (mark_after_load seed count))
  pub accepted_only :
      (seed count code : ℕ) (key iv area : List ℕ) (e : Engine) → AllBytes key → AllBytes iv → test_load seed count code key iv area ≡ accepted e
      → (seed ≡ 0 → ⊥) × (count ≤ 1000) × ((c : Cipher) × (code ≡ code_of c) × Pair c key iv × (length area ≡ area_length c))
  -- 'Show that each generated call is accepted, ..': from every engine, the set up and then each call that the words give. That the load leaves what
  -- these calls leave is `as_those_calls`.
  pub each_accepted :
      (e : Engine) (seed count code : ℕ) (key iv : List ℕ) → AllBytes key → AllBytes iv
      → answered e (call_test_load seed count code key iv) ≡ 0 → EachAccepted e (set_up_and_calls seed count code key iv)
  -- '.. and that the checkpoint at the end is the one of that cipher, key, IV and the position counted from the words alone': an accepted write gives
  -- it, and a write is accepted exactly where at least as many bytes are lent as it has.
  pub checkpoint :
      (seed count : ℕ) (c : Cipher) (key iv area lent : List ℕ) (e : Engine) (w : Written) → AllBytes key → AllBytes iv
      → test_load seed count (code_of c) key iv area ≡ accepted e → write e.head e.area lent ≡ accepted w
      → Checkpoint (given w) (four_after seed count c key iv)
  pub writable :
      (seed count : ℕ) (c : Cipher) (key iv area lent : List ℕ) (e : Engine) → AllBytes key → AllBytes iv
      → test_load seed count (code_of c) key iv area ≡ accepted e
      → ((w : Written) × (write e.head e.area lent ≡ accepted w)) ↔ (length_of c (position_after seed count) ≤ length lent)
  -- Spent then gives the farthest byte that a generated cipher call reached.
  pub spent_after :
      (seed count code : ℕ) (key iv area : List ℕ) (e : Engine) → AllBytes key → AllBytes iv → test_load seed count code key iv area ≡ accepted e
      → spent e.head ≡ accepted (record { head = e.head; count = mark_after_load seed count })
  -- 'For the account and the mark it is that set-up and those calls': in a list it leaves engine, account and what has been reached as the set up and
  -- these calls do one by one, ..
  pub as_those_calls :
      (e : Engine) (a : Account) (reached : List ℕ) (seed count code : ℕ) (key iv : List ℕ) → AllBytes key → AllBytes iv
      → answered e (call_test_load seed count code key iv) ≡ 0
      → (called e (call_test_load seed count code key iv) ≡ run (set_up_and_calls seed count code key iv) e)
      × (feed (length e.area) a (call_test_load seed count code key iv) ≡ account (length e.area) (set_up_and_calls seed count code key iv) a)
      × (reached_by (length e.area) a reached (call_test_load seed count code key iv)
      ≡ reached_since (length e.area) (set_up_and_calls seed count code key iv) a reached)
  -- .. also inside a list, whatever calls come before it and after it: the list in which they stand in its place comes to the same; ..
  pub in_a_list :
      (before after : List Call) (area : List ℕ) (seed count code : ℕ) (key iv : List ℕ) → AllGiven before → AllBytes key → AllBytes iv
      → answered (engine_after before area) (call_test_load seed count code key iv) ≡ 0
      → let load = before ++ (call_test_load seed count code key iv ∷ after) in
      let calls = before ++ (set_up_and_calls seed count code key iv ++ after) in
      (engine_after load area ≡ engine_after calls area) × (account_after load area ≡ account_after calls area)
      × (farthest_after load area ≡ farthest_after calls area)
  pub all_given : (seed count code : ℕ) (key iv : List ℕ) → AllBytes key → AllBytes iv → AllGiven (set_up_and_calls seed count code key iv)
  -- .. so that the account is the four, and the farthest byte the one that is counted from the words alone; ..
  pub account_is :
      (size seed count : ℕ) (a : Account) (reached : List ℕ) (c : Cipher) (key iv : List ℕ) → (seed ≡ 0 → ⊥) → count ≤ 1000 → Pair c key iv
      → size ≡ area_length c
      → (feed size a (call_test_load seed count (code_of c) key iv) ≡ holds (four_after seed count c key iv))
      × (largest (reached_by size a reached (call_test_load seed count (code_of c) key iv)) ≡ mark_after_load seed count)
  -- .. where it is refused, it leaves all three.
  pub refused_leaves :
      (e : Engine) (a : Account) (reached : List ℕ) (seed count code : ℕ) (key iv : List ℕ)
      → (answered e (call_test_load seed count code key iv) ≡ 0 → ⊥)
      → (called e (call_test_load seed count code key iv) ≡ e) × (feed (length e.area) a (call_test_load seed count code key iv) ≡ a)
      × (reached_by (length e.area) a reached (call_test_load seed count code key iv) ≡ reached)
  -- The limit is never near: after so many calls position and mark are at most 256 bytes for each of them and 4,095. So after each of the calls of a
  -- load, which are the first ones of every longer load, the position is at most 260,095.
  pub position_most : (seed count : ℕ) → position_after seed count ≤ 256 * count + 4095
  pub mark_most : (seed count : ℕ) → mark_after_load seed count ≤ 256 * count + 4095
  pub beginning : (seed m count : ℕ) → m ≤ count → take m (generated_calls seed count) ≡ generated_calls seed m
  pub never_near : (seed m count : ℕ) → m ≤ count → count ≤ 1000 → end_of_calls 0 (take m (generated_calls seed count)) ≤ 260095
  -- A load that can be repeated: from two engines, whatever their heads and areas held before, with areas of one size, it gets the same answer, and
  -- where it is accepted it leaves the same head and tables.
  pub repeated :
      (e e' : Engine) (seed count code : ℕ) (key iv : List ℕ) → length e.area ≡ length e'.area
      → (answered e (call_test_load seed count code key iv) ≡ answered e' (call_test_load seed count code key iv))
      × (answered e (call_test_load seed count code key iv) ≡ 0
      → called e (call_test_load seed count code key iv) ≡ called e' (call_test_load seed count code key iv))
  -- A load of no calls is the set up.
  pub no_calls : (seed code : ℕ) (key iv area : List ℕ) → (seed ≡ 0 → ⊥) → test_load seed 0 code key iv area ≡ set_up code key iv area
  -- A new word has 32 bits, and it is 0 exactly where it comes from 0: from a seed of 0 every word would be 0, and from another seed none is.
  pub word_fits : (x : ℕ) → x < 2 ^ 32 → next_word x < 2 ^ 32
  pub word_0 : (x : ℕ) → x < 2 ^ 32 → (next_word x ≡ 0) ↔ (x ≡ 0)
  -- Some words, calls, positions and marks.
  pub from_1 : next_word 1 ≡ 0x00042021
  pub from_2 : next_word 2 ≡ 0x00084042
  pub from_highest : next_word 0x80000000 ≡ 0x80084000
  pub from_all_bits : next_word 0xFFFFFFFF ≡ 0x0003E01F
  pub six_calls :
      generated_calls 1 6
      ≡ cipher_zeros 2 ∷ cipher_zeros 256 ∷ cipher_zeros 166 ∷ cipher_zeros 253 ∷ cipher_zeros 146 ∷ move_to_byte 3560 ∷ []
  pub first_even : generated_calls 2 1 ≡ move_to_byte 33 ∷ []
  pub five_end : position_after 1 5 ≡ 823
  pub six_end : (position_after 1 6 ≡ 3560) × (mark_after_load 1 6 ≡ 823)
  -- a cipher call over no bytes beyond the mark, and a move back behind it
  pub no_bytes : generated_calls 290 2 ≡ move_to_byte 920 ∷ cipher_zeros 0 ∷ []
  pub no_bytes_end : (position_after 290 2 ≡ 920) × (mark_after_load 290 2 ≡ 0)
  pub back : generated_calls 272 2 ≡ cipher_zeros 175 ∷ move_to_byte 161 ∷ []
  pub back_end : (position_after 272 2 ≡ 161) × (mark_after_load 272 2 ≡ 175)
