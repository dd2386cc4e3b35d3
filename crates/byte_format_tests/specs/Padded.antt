-- Numbers of one byte, each with a byte of 0 after it.
use Rattle.std.specs.Prelude.{ℕ, List, [], ◌∷◌, nat_le, Option, Some, None, if◌then◌else◌}
use Rattle.std.specs.Int.{w8}
use Rattle.byte_format.specs.Format.{Format, value, followed}
use Rattle.byte_format.specs.Items.{number}

-- two bytes, of which the first is the number
abbrev pub padded : Format ℕ
padded = followed (number w8) (λ n. followed (number w8) (λ padding. value n))

-- the spelling of a number that is at most this
abbrev pub padded_writing : ℕ → ℕ → Option (List ℕ)
padded_writing most n = if nat_le n most then Some (n ∷ 0 ∷ []) else None
