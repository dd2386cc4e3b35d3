-- How a column holds its values.
use Rattle.std.specs.Prelude.{◌≡◌, ℕ, ◌<◌, ◌≤◌, ◌^◌, true, nat_lt, List, [], length, map, replicate}
use Rattle.std.specs.List.{list_all}
use Rattle.std.specs.Fmt.{signed_decimal}
use Rattle.std.specs.Int.{w32}
use Rattle.byte_format.specs.Written.{text_bytes}
use Rattle.col_codec.specs.Ints.{int_spelling, is_i64}
use Rattle.col_codec.specs.Texts.{text_spelling}
use Rattle.block_column.specs.Kinds.{Kind, constant, integers, dictionary, plain, kind_of, body_of, dictionary_bytes}
use Rattle.block_model.specs.Distinct.{distinct, is_short, text_at}
use Rattle.block_column.specs.declared.cells.Cells.{Cells}
use Rattle.block_column.specs.declared.cells.Cells.TheVariants as cells

-- the value of each row
abbrev pub texts_of : Cells → List (List ℕ)
texts_of (cells.Constant text rows) = replicate rows text
texts_of (cells.Integers ints) = map signed_decimal ints
texts_of (cells.Dictionary texts codes) = map (text_at texts) codes.items
texts_of (cells.Plain texts) = texts

-- Each integer has 64 bits, and each code stands for a text.
abbrev pub IsCells : Cells → Type 0
IsCells (cells.Constant text rows) = Unit {0}
IsCells (cells.Integers ints) = list_all is_i64 ints ≡ true
IsCells (cells.Dictionary texts codes) = list_all (λ code. nat_lt code (length texts)) codes.items ≡ true
IsCells (cells.Plain texts) = Unit {0}

abbrev pub kind_in : Cells → Kind
kind_in (cells.Constant text rows) = constant
kind_in (cells.Integers ints) = integers
kind_in (cells.Dictionary texts codes) = dictionary
kind_in (cells.Plain texts) = plain

abbrev pub body_in : Cells → List ℕ
body_in (cells.Constant text rows) = text_bytes w32 text
body_in (cells.Integers ints) = int_spelling ints
body_in (cells.Dictionary texts codes) = dictionary_bytes texts codes.items
body_in (cells.Plain texts) = text_spelling texts

-- What is written of them is short enough for the lengths that are written.
abbrev pub IsNarrow : Cells → Type 0
IsNarrow (cells.Constant text rows) = length text < 2 ^ 32
IsNarrow (cells.Integers ints) = Unit {0}
IsNarrow (cells.Dictionary texts codes) = (length texts ≤ 255) × (list_all is_short texts ≡ true)
IsNarrow (cells.Plain texts) = Unit {0}

-- No text is held that no row has.
abbrev pub IsEach : Cells → Type 0
IsEach (cells.Constant text rows) = 0 < rows
IsEach (cells.Integers ints) = Unit {0}
IsEach (cells.Dictionary texts codes) = texts ≡ distinct (map (text_at texts) codes.items)
IsEach (cells.Plain texts) = Unit {0}

-- the decimal texts of the integers, if integers are held
abbrev pub decimals_in : Cells → List (List ℕ)
decimals_in (cells.Constant text rows) = []
decimals_in (cells.Integers ints) = map signed_decimal ints
decimals_in (cells.Dictionary texts codes) = []
decimals_in (cells.Plain texts) = []

-- They are held in the first kind that fits, as it is written.
pub record IsFirst (held : Cells) : Type 0 where
  pub codes : IsCells held
  pub narrow : IsNarrow held
  pub each : IsEach held
  pub kind : kind_in held ≡ kind_of (texts_of held)
  pub body : body_in held ≡ body_of (kind_of (texts_of held)) (texts_of held)
