-- Document 01, 'Position': the engine is a head (cipher code, position) and its table area. Document 02 (a): the head carries the word we are inside;
-- (b): it carries the mark, which is the farthest byte that a cipher call reached since the last set up or load, from 0 or the loaded position on.
use Rattle.std.specs.Prelude.{ℕ, zero, suc, max}
use Rattle.engine.specs.declared.Head.{Head}

abbrev pub head_at : (code position word mark : ℕ) → Head
head_at code position word mark = record { code = code; word = word; position = position; mark = mark }

-- 'a fresh head is code 0, position 0'; its word and its mark are 0
abbrev pub fresh_head : Head
fresh_head = head_at 0 0 0 0

-- a head with another mark and all else as it is
abbrev pub with_mark : Head → ℕ → Head
with_mark h mark = head_at h.code h.position h.word mark

-- the mark after a cipher call of n bytes: 'a cipher call of one byte or more makes it the larger of the mark and its own end', and one of no bytes
-- leaves it
unfoldable pub mark_after : (mark end n : ℕ) → ℕ
mark_after mark end zero = mark
mark_after mark end (suc n) = max mark end
