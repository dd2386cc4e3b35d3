-- The room of a log.
use Rattle.std.specs.Prelude.{ℕ}

-- how many numbers beyond the settled ones it has room for
abbrev pub room : ℕ
room = 8000
