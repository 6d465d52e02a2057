-- Document 02 (i), four lines on one stream, as definitions of their inputs: opening, draw and closing, and the engine's calls that are refused with 21
-- while sharing is open. Write, recover and spent take no share account.
use Rattle.std.specs.Prelude.{List, ℕ, ◌+◌, ◌-◌, leb, ℤ, length, replicate}
use Rattle.laws.specs.Result.{Result, accepted, Outcome, outcome, ◌>>=◌, ◌>>◌, refuse◌unless◌}
use Rattle.conditions.specs.Limit.{limit}
use Rattle.conditions.specs.Conditions.{cipher_check}
use Rattle.engine.specs.declared.Head.{Head}
use Rattle.engine.specs.Calls.{Engine, engine_of, head_ready, Ciphered, Loaded, set_up, cipher, encipher_volume, move, load}
use Rattle.test_load.specs.TestLoad.{test_load}
use Rattle.sharing.specs.declared.ShareAccount.{ShareAccount}
use Rattle.sharing.specs.Shares.{is_closed, is_open, closed_account, opened_account, share_of, drawn_from}

-- ── while sharing is open ──

-- 'with 21, before everything else, any set-up, load, move, test load, volume enciphering or plain cipher call while sharing is open'
abbrev pub while_closed : {A : Type 0} → ShareAccount → Result A → Result A
while_closed s result = (refuse 21 unless is_closed s) >> result

-- these calls with a share account, which none of them changes
unfoldable pub set_up_with : (s : ShareAccount) (head : Head) (code : ℕ) (key iv area : List ℕ) → Outcome Engine
set_up_with s h code key iv area = outcome (engine_of h area) (while_closed s (set_up code key iv area))

unfoldable pub load_with : (s : ShareAccount) (head : Head) (string area : List ℕ) → Outcome Loaded
load_with s h string area =
    outcome (record { engine = engine_of h area; key = replicate 8 0; iv = replicate 8 0 }) (while_closed s (load string area))

unfoldable pub move_with : (s : ShareAccount) (head : Head) (area : List ℕ) (distance : ℤ) → Outcome Engine
move_with s h area distance = outcome (engine_of h area) (while_closed s (move h area distance))

unfoldable pub test_load_with : (s : ShareAccount) (head : Head) (seed count code : ℕ) (key iv area : List ℕ) → Outcome Engine
test_load_with s h seed count code key iv area = outcome (engine_of h area) (while_closed s (test_load seed count code key iv area))

unfoldable pub encipher_volume_with : (s : ShareAccount) (head : Head) (area volume : List ℕ) → Outcome Ciphered
encipher_volume_with s h area volume =
    outcome (record { engine = engine_of h area; bytes = volume }) (while_closed s (encipher_volume h area volume))

unfoldable pub cipher_with : (s : ShareAccount) (head : Head) (area bytes : List ℕ) → Outcome Ciphered
cipher_with s h area bytes = outcome (record { engine = engine_of h area; bytes = bytes }) (while_closed s (cipher h area bytes))

-- ── opening, draw and closing ──

-- what an opening leaves: the share account beside the engine
pub record Opened : Type 0 where
  pub account : ShareAccount
  pub engine : Engine

-- **Open sharing** 21: 'a second opening'. Then 'the engine's own refusals of a cipher call (of no bytes, for an opening)': 1, 4, 5, 13; that 6 is never
-- given is `open_never_6` of FourLines in theorems/specs. 20: 'shares whose sum exceeds the stream left', as whole numbers.
unfoldable pub open_sharing : (s : ShareAccount) (head : Head) (area : List ℕ) (share0 share1 share2 share3 : ℕ) → Result Opened
open_sharing s h area share0 share1 share2 share3 = do
  refuse 21 unless is_closed s
  cipher_check (head_ready h area) h.position 0
  refuse 20 unless leb (share0 + share1 + share2 + share3) (limit - h.position)
  accepted (record { account = opened_account h.position share0 share1 share2 share3; engine = engine_of h area })

unfoldable pub open_sharing_call : (s : ShareAccount) (head : Head) (area : List ℕ) (share0 share1 share2 share3 : ℕ) → Outcome Opened
open_sharing_call s h area share0 share1 share2 share3 =
    outcome (record { account = s; engine = engine_of h area }) (open_sharing s h area share0 share1 share2 share3)

-- whether n bytes are within a line's share and the common part. 19: 'a line over 3'. 20: 'a draw beyond the line's share and the common part still left', whose sum is 'that of
-- whole numbers'.
unfoldable pub share_check : (s : ShareAccount) (line n : ℕ) → Result (Unit {0})
share_check s line n = do
  refuse 19 unless leb line 3
  refuse 20 unless leb n (share_of s line + s.common)

-- the conditions of a draw of n bytes, used for the engine and for the account of cipher, key, IV and position. 21: 'a draw .. while it is not' open.
-- `ciphers` is the result of the cipher call, or of its conditions: 19 and 20 come 'after the engine's own refusals of a cipher call'.
unfoldable pub draw_check : {A : Type 0} (s : ShareAccount) (ciphers : Result A) (line n : ℕ) → Result A
draw_check s ciphers line n = do
  refuse 21 unless is_open s
  r ← ciphers
  share_check s line n
  accepted r

-- what a draw leaves: the share account beside the engine and the lent bytes
pub record Drawn : Type 0 where
  pub account : ShareAccount
  pub engine : Engine
  pub bytes : List ℕ

-- **Draw** 'is a cipher call made for a line'.
unfoldable pub draw : (s : ShareAccount) (head : Head) (area : List ℕ) (line : ℕ) (bytes : List ℕ) → Result Drawn
draw s h area line bytes = do
  r ← draw_check s (cipher h area bytes) line (length bytes)
  accepted (record { account = drawn_from s line (length bytes); engine = r.engine; bytes = r.bytes })

unfoldable pub draw_call : (s : ShareAccount) (head : Head) (area : List ℕ) (line : ℕ) (bytes : List ℕ) → Outcome Drawn
draw_call s h area line bytes = outcome (record { account = s; engine = engine_of h area; bytes = bytes }) (draw s h area line bytes)

-- **Close sharing** 21: 'a .. closing while it is not' open.
unfoldable pub close_sharing : (s : ShareAccount) → Result ShareAccount
close_sharing s = do
  refuse 21 unless is_open s
  accepted closed_account

unfoldable pub close_sharing_call : (s : ShareAccount) → Outcome ShareAccount
close_sharing_call s = outcome s (close_sharing s)
