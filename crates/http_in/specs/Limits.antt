-- The limits of this profile, and places.
use Rattle.std.specs.Prelude.{ℕ, ◌-◌, ◌^◌, min}

-- the bytes of a head, of a trailer section and of a chunk line
abbrev pub head_limit : ℕ
head_limit = 16384

-- the header lines of a head and of a trailer section
abbrev pub field_limit : ℕ
field_limit = 100

-- this many bytes from the start of the connection, as far as a place goes
abbrev pub place : ℕ → ℕ
place n = min n (2 ^ 64 - 1)
