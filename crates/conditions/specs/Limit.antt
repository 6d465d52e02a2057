-- Document 01: 'The stream limit, 67,108,864 bytes, belongs to both.'
use Rattle.std.specs.Prelude.{ℕ}

abbrev pub limit : ℕ
limit = 67108864
