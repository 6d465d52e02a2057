-- The tasks of the program: calls of the engine, each on what the call before it left. Where a call is refused, its refusal is the answer, and the
-- calls after it are not made.
use Rattle.std.specs.Prelude.{◌≡◌, Bool, cond, Option, Some, None, OnOk, List, [], ◌∷◌, ℕ, ◌+◌, ◌-◌, ◌≤◌, eqb, ltb, ℤ, pos, negsuc, neg_ℤ, length, take, drop}
use Rattle.varint.specs.Number.{Reading, is, ended, malformed, read_number}
use Rattle.cipher.specs.declared.Cipher.{Cipher}
use Rattle.cipher.specs.declared.Cipher.TheVariants.{Hc128, Hc256}
use Rattle.cipher.specs.Numbers.{code_of}
use Rattle.checkpoint.specs.Checkpoint.{most_groups}
use Rattle.engine.specs.declared.answers.Next.{Next}
use Rattle.laws.specs.Result.{Outcome}
use Rattle.conditions.specs.Limit.{limit}
use Rattle.engine.specs.Head.{fresh_head}
use Rattle.engine.specs.Calls.{Engine, Written, Recovered, set_up_call, move_call, write_call, recover_call, load_call}
use Rattle.move_to.specs.MoveTo.{move_to}

-- the cipher whose area a checkpoint is loaded into: HC-128 where its first byte is that cipher's code, else HC-256
unfoldable pub cipher_of : List ℕ → Cipher
cipher_of [] = Hc256
cipher_of (b ∷ string) = cond (eqb b (code_of Hc128)) Hc128 Hc256

-- the position that a checkpoint states: the number after its first byte
abbrev pub value : Reading → Option ℕ
value (is n rest) = Some n
value ended = None
value malformed = None

unfoldable pub position_in : List ℕ → Option ℕ
position_in string = value (read_number most_groups (drop 1 string))

-- the bytes from one place of a file to another; the difference of two numbers is 0 where the second is larger
unfoldable pub span : ℤ → ℤ → ℕ
span (pos here) (pos end) = end - here
span (pos here) (negsuc end) = 0
span (negsuc here) (pos end) = 0
span (negsuc here) (negsuc end) = 0

-- whether n bytes from a position on pass the limit
abbrev pub passes_limit : ℕ → ℕ → Bool
passes_limit position n = ltb limit (position + n)

-- an accepted cipher call advances by the number of its bytes, and the end is within the limit
pub record Advance (position n : ℕ) (next : Next (Unit {0})) : Type 0 where
  pub advanced : OnOk next.answer (next.head.position ≡ position + n)
  pub within : OnOk next.answer (position + n ≤ limit)

-- what two calls leave, the second on what the first left; `kept` is what is left where the first is refused
abbrev pub and_then : {A : Type 0} → Outcome Engine → (Engine → Outcome A) → (Engine → A) → Outcome A
and_then first second kept =
    cond (eqb first.refusal 0) (second first.value) (record { refusal = first.refusal; value = kept first.value })

-- load a checkpoint, from a fresh head
unfoldable pub load_fresh : (string area : List ℕ) → Outcome Engine
load_fresh string area =
    record { refusal = (load_call fresh_head string area).refusal; value = (load_call fresh_head string area).value.engine }

-- load a checkpoint and move to a position
unfoldable pub load_and_move : (string area : List ℕ) (position : ℕ) → Outcome Engine
load_and_move string area position = and_then (load_fresh string area) (move_to position) (λ e. e)

-- load a checkpoint and move back by its position
unfoldable pub open_checkpoint : (string area : List ℕ) → Outcome Engine
open_checkpoint string area =
    and_then (load_fresh string area) (λ e. move_call e.head e.area (neg_ℤ (pos e.head.position))) (λ e. e)

-- set up and move to a position
unfoldable pub set_up_at : (code : ℕ) (key iv area : List ℕ) (position : ℕ) → Outcome Engine
set_up_at code key iv area position = and_then (set_up_call fresh_head code key iv area) (move_to position) (λ e. e)

-- write on what the calls before left
abbrev pub then_write : Outcome Engine → List ℕ → Outcome Written
then_write first lent =
    and_then first (λ e. write_call e.head e.area lent) (λ e. record { engine = e; length = 0; lent = lent })

-- set up, move to a position and write
unfoldable pub write_at : (code : ℕ) (key iv area : List ℕ) (position : ℕ) (lent : List ℕ) → Outcome Written
write_at code key iv area position lent = then_write (set_up_at code key iv area position) lent

-- load a checkpoint, move to a position and write
unfoldable pub rewrite_at : (string area : List ℕ) (position : ℕ) (lent : List ℕ) → Outcome Written
rewrite_at string area position lent = then_write (load_and_move string area position) lent

-- n counts bytes at the start of a list; the second part follows from the first, and is said for the prover, which asks for it
abbrev pub Counts : ℕ → List ℕ → Type 0
Counts n bytes = (n ≤ length bytes) × (n ≡ length (take n bytes))

-- load a checkpoint and recover its key and IV
unfoldable pub recover_from : (string area key iv : List ℕ) → Outcome Recovered
recover_from string area key iv =
    and_then (load_fresh string area) (λ e. recover_call e.head e.area key iv) (λ e. record { engine = e; key = key; iv = iv })
