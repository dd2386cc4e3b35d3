-- The body of a column as a format.
use Rattle.std.specs.Prelude.{ℕ, Bool, ◌==◌, nat_lt, List, map, replicate, Result, if◌then◌else◌}
use Rattle.std.specs.Fmt.{signed_decimal}
use Rattle.std.specs.Int.{w8, w16, w32}
use Rattle.byte_format.specs.Format.{Format, value, followed, many, front, ◌>>=◌}
use Rattle.byte_format.specs.Items.{number, number_that, text}
use Rattle.col_codec.specs.Ints.{ints}
use Rattle.col_codec.specs.Texts.{texts}
use Rattle.block_model.specs.Distinct.{text_at}

abbrev pub constant_body : ℕ → Format (List (List ℕ))
constant_body rows = followed (text w32) (λ t. value (replicate rows t))

abbrev pub integers_body : ℕ → Format (List (List ℕ))
integers_body rows = followed (ints rows) (λ xs. value (map signed_decimal xs))

-- a code below the count
abbrev pub code_below : ℕ → Format ℕ
code_below count = number_that w8 (λ code. nat_lt code count)

unfoldable pub dictionary_body : ℕ → Format (List (List ℕ))
dictionary_body rows =
    followed (number w8) (λ count. followed (many count (text w16)) (λ held.
    followed (many rows (code_below count)) (λ codes. value (map (text_at held) codes))))

-- the same, one step after another
unfoldable pub dictionary_steps : ℕ → List ℕ → Result (List (List ℕ) × List ℕ) ℕ
dictionary_steps rows bytes = do
  count ← front (number w8) bytes
  held ← front (many count.0 (text w16)) count.1
  codes ← front (many rows (code_below count.0)) held.1
  front (value (map (text_at held.0) codes.0)) codes.1

-- the values of this many rows in a column of this kind
abbrev pub body : ℕ → ℕ → Format (List (List ℕ))
body rows kind =
    if kind == 0 then constant_body rows
    else (if kind == 1 then integers_body rows
    else (if kind == 2 then dictionary_body rows else texts rows))

abbrev pub is_kind : ℕ → Bool
is_kind kind = nat_lt kind 4

abbrev pub kind_item : Format ℕ
kind_item = number_that w8 is_kind
