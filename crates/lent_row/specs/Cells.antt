-- The cells in which the fields of a row lie.
use Rattle.std.specs.Prelude.{ℕ, Bool, not, List, [], slice_index_or}
use Rattle.std.specs.Fmt.{signed_decimal}
use Rattle.log_model.specs.Field.{Field, is_empty}
use Rattle.lent_row.specs.declared.value.Value.{Value}
use Rattle.lent_row.specs.declared.value.Value.TheVariants as value

-- the text of a value
abbrev pub value_text : Value → List ℕ
value_text (value.Str text) = text.now
value_text (value.Int integer) = signed_decimal integer

-- the cell at a place
abbrev pub cell_at : List Field → ℕ → Field
cell_at cells place = slice_index_or cells place ([], [])

-- A cell without a value is no field.
abbrev pub has_value : Field → Bool
has_value cell = not (is_empty cell.1)
