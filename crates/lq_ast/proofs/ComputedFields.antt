-- The computed fields are those whose names are reserved, and a row has their values under them.
use Rattle.std.proofs.Common.{◌≡◌, ℕ, Bool, true, false, ◌||◌, cond, List, Option, Some, None, codes, refl}
use Rattle.std.specs.Prelude.{bytes_eq, is_some}
use Rattle.std.specs.Option.{option_map_or}
use Rattle.vl_row.specs.Field.{field_value, is_reserved}
use Rattle.vl_row.specs.Row.{Row, value_of}
use Rattle.lq_ast.specs.ComputedField.{computed_name, computed_of}
use Rattle.lq_ast.specs.declared.computed.Computed.{Computed}
use Rattle.lq_ast.specs.declared.computed.Computed.TheVariants.{Time, Stream, StreamId}

abbrev one_of_three : (time stream id : Bool) → Option Computed
one_of_three time stream id = cond time (Some Time) (cond stream (Some Stream) (cond id (Some StreamId) None))

some_of_three : (time stream id : Bool) → is_some (one_of_three time stream id) ≡ (time || (stream || id))
some_of_three true stream id = refl
some_of_three false true id = refl
some_of_three false false true = refl
some_of_three false false false = refl

-- a name is reserved exactly where it is that of a computed field
pub is_some-computed_of : (name : List ℕ) → is_some (computed_of name) ≡ is_reserved name
is_some-computed_of name =
    some_of_three (bytes_eq name (codes "_time")) (bytes_eq name (codes "_stream")) (bytes_eq name (codes "_stream_id"))

value_of_three : (f : Computed → List ℕ) (stored : List ℕ) (time stream id : Bool)
    → option_map_or f (one_of_three time stream id) stored
    ≡ cond time (f Time) (cond stream (f Stream) (cond id (f StreamId) stored))
value_of_three f stored true stream id = refl
value_of_three f stored false true id = refl
value_of_three f stored false false true = refl
value_of_three f stored false false false = refl

-- the value of any field of a row: of a computed one, or of a stored one
pub computed_or_stored : (row : Row) (name : List ℕ)
    → option_map_or (λ field. value_of row (computed_name field)) (computed_of name) (field_value row.fields name)
    ≡ value_of row name
computed_or_stored row name =
    value_of_three (λ field. value_of row (computed_name field)) (field_value row.fields name)
    (bytes_eq name (codes "_time")) (bytes_eq name (codes "_stream")) (bytes_eq name (codes "_stream_id"))
