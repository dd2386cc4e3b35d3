-- What the pipes that set fields make of a record (LogsQL, "Pipes that make fields").
use Rattle.std.specs.Prelude.{ℕ, ◌^◌, ◌&&◌, nat_eq, List, [], ◌∷◌, flat_map, fold, drop, length}
use Rattle.std.specs.Prelude.{bytes_eq, codes, decimal, ℤ, pos, neg_ℤ, ◌+ℤ◌, ◌-ℤ◌, ◌*ℤ◌}
use Rattle.std.specs.Prelude.{int_div, int_le, int_lt, int_rem, Option, Some, None, option_map}
use Rattle.std.specs.Prelude.{Result, Ok, Err, if◌then◌else◌}
use Rattle.std.specs.Fmt.{signed_decimal}
use Rattle.std.specs.List.{starts_with}
use Rattle.std.specs.Ordering.{int_eq}
use Rattle.vl_row.specs.Field.{Field, field_value, is_empty}
use Rattle.vl_row.specs.Order.{number_of}
use Rattle.lq_ast.specs.Grouping.{◌>>=◌}
use Rattle.lq_ast.specs.Making.{Expression, Making, MathItem, whole, value_of, two, extract, format, len, math}
use Rattle.lq_ast.specs.PatternText.{PatternPiece, Pieces, plain, named}
use Rattle.lq_ast.specs.Records.{Record, put_field}
use Rattle.lq_ast.specs.declared.row_pipe.Op.{Op}
use Rattle.lq_ast.specs.declared.row_pipe.Op.TheVariants.{Add, Sub, Mul, Div, Mod}

-- ---- extract

-- what stands before the first occurrence of a text in a value, and what stands after it
abbrev pub split_once : List ℕ → List ℕ → Option (List ℕ × List ℕ)
split_once text [] = if is_empty text then Some ([], []) else None
split_once text (byte ∷ value) =
    if starts_with nat_eq (byte ∷ value) text then Some ([], drop (length text) (byte ∷ value))
    else option_map (λ parts. (byte ∷ parts.0, parts.1)) (split_once text value)

abbrev pub part_before : Option (List ℕ × List ℕ) → List ℕ
part_before None = []
part_before (Some parts) = parts.0

-- what is left of a value after a text, and nothing once a text was not found
abbrev pub left_after : List ℕ → Option (List ℕ) → Option (List ℕ)
left_after text None = None
left_after text (Some left) = option_map (λ parts. parts.1) (split_once text left)

-- What a name gets before these pieces: all that is left where there are none, or what stands before the next text.
abbrev pub taken : Pieces → Option (List ℕ) → List ℕ
taken pieces None = []
taken [] (Some left) = left
taken (plain text ∷ pieces) (Some left) = part_before (split_once text left)
taken (named name ∷ pieces) (Some left) = []

-- the names with what they get, from what is left of a value
abbrev pub extracted : Pieces → Option (List ℕ) → List Field
extracted [] left = []
extracted (plain text ∷ pieces) left = extracted pieces (left_after text left)
extracted (named name ∷ pieces) left = (name, taken pieces left) ∷ extracted pieces left

-- The name `_` sets nothing, as an empty one does.
abbrev pub put_extracted : Record → Field → Record
put_extracted r field = if bytes_eq field.0 (codes "_") then r else put_field r field.0 field.1

abbrev pub extract_fields : Pieces → List ℕ → Record → Record
extract_fields pieces from r = fold put_extracted r (extracted pieces (Some (field_value r from)))

-- ---- format

abbrev pub piece_text : Record → PatternPiece → List ℕ
piece_text r (plain text) = text
piece_text r (named name) = field_value r name

abbrev pub formatted : Pieces → Record → List ℕ
formatted pieces r = flat_map (piece_text r) pieces

-- ---- math

-- what an operation gives: nothing where it divides by zero
abbrev pub operated : Op → ℤ → ℤ → Option ℤ
operated Add a b = Some (a +ℤ b)
operated Sub a b = Some (a -ℤ b)
operated Mul a b = Some (a *ℤ b)
operated Div a b = if int_eq b (pos 0) then None else Some (int_div a b)
operated Mod a b = if int_eq b (pos 0) then None else Some (int_rem a b)

-- A number that is not a 64-bit integer is an overflow in the field of this name.
abbrev pub in_range : List ℕ → Option ℤ → Result (Option ℤ) (List ℕ)
in_range name None = Ok None
in_range name (Some n) =
    if int_le (neg_ℤ (pos (2 ^ 63))) n && int_lt n (pos (2 ^ 63)) then Ok (Some n) else Err name

-- There is no value where a side has none.
abbrev pub operation : List ℕ → Op → Option ℤ → Option ℤ → Result (Option ℤ) (List ℕ)
operation name op None b = Ok None
operation name op (Some a) None = Ok None
operation name op (Some a) (Some b) = in_range name (operated op a b)

-- the number that an expression is over a record, if it is one, or an overflow in the field that it is for
abbrev pub worth : List ℕ → Record → Expression → Result (Option ℤ) (List ℕ)
worth name r (whole n) = Ok (Some n)
worth name r (value_of field) = Ok (number_of (field_value r field))
worth name r (two op left right) = worth name r left >>= λ a. worth name r right >>= λ b. operation name op a b

abbrev pub number_text : Option ℤ → List ℕ
number_text None = []
number_text (Some n) = signed_decimal n

-- The items count from left to right, and each sees what those before it set.
abbrev pub math_fields : List MathItem → Record → Result Record (List ℕ)
math_fields [] r = Ok r
math_fields (item ∷ items) r =
    worth item.1 r item.0 >>= λ n. math_fields items (put_field r item.1 (number_text n))

-- ---- all

-- the record with its new fields, or the name of the field whose number is not a 64-bit integer
abbrev pub made : Making → Record → Result Record (List ℕ)
made (extract pieces from) r = Ok (extract_fields pieces from r)
made (format pieces name) r = Ok (put_field r name (formatted pieces r))
made (len from name) r = Ok (put_field r name (decimal (length (field_value r from))))
made (math items) r = math_fields items r
