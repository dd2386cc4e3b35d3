-- The limit of a body's length.
use Rattle.std.specs.Prelude.{ℕ}

-- the maximum length of a body in bytes
abbrev pub body_limit : ℕ
body_limit = 33554432
