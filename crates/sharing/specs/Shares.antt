-- Document 02 (i): the share account, which is 'state beside the head'. It is open or closed, and has what is left of the share of each line 0 to 3 and
-- of the common part. 'An account that the caller made up is taken as given'.
use Rattle.std.specs.Prelude.{Bool, not, [], ◌∷◌, ℕ, ◌+◌, ◌-◌, eqb, get_or, set}
use Rattle.conditions.specs.Limit.{limit}
use Rattle.sharing.specs.declared.ShareAccount.{ShareAccount}

-- sharing is closed where the number `opened` of the account is 0, and open where it is any other
abbrev pub is_closed : ShareAccount → Bool
is_closed s = eqb s.opened 0

abbrev pub is_open : ShareAccount → Bool
is_open s = not (is_closed s)

-- the share account 'begins closed', and a closing leaves it so
abbrev pub closed_account : ShareAccount
closed_account = record { opened = 0; shares = 0 ∷ 0 ∷ 0 ∷ 0 ∷ []; common = 0 }

-- 'Sharing opens at the present position with a share for each line 0 to 3; what the shares leave of the stream is common'
abbrev pub opened_account : (position share0 share1 share2 share3 : ℕ) → ShareAccount
opened_account position share0 share1 share2 share3 =
    record {
      opened = 1;
      shares = share0 ∷ share1 ∷ share2 ∷ share3 ∷ [];
      common = limit - position - (share0 + share1 + share2 + share3);
    }

-- what is left of the share of a line
abbrev pub share_of : ShareAccount → (line : ℕ) → ℕ
share_of s line = get_or s.shares line 0

-- the account after a draw of n bytes for a line: 'A draw uses up the line's share before the common part', and 'what a line draws beyond its share comes
-- from the common part'. A difference is 0 where the second number is the larger.
unfoldable pub drawn_from : ShareAccount → (line n : ℕ) → ShareAccount
drawn_from s line n =
    record {
      opened = s.opened;
      shares = set s.shares line (share_of s line - n);
      common = s.common - (n - share_of s line);
    }
