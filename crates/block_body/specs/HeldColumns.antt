-- How a block holds the values of its columns.
use Rattle.std.specs.Prelude.{◌<◌, ◌^◌, ℕ, List, [], ◌∷◌, length, map, sum_by}
use Rattle.block_body.specs.declared.held_columns.Columns.{Columns}
use Rattle.block_body.specs.declared.held_columns.Columns.TheVariants as columns

-- the values of each column: of one row, one
abbrev pub values_held : Columns → List (List (List ℕ))
values_held (columns.Each each) = each.items
values_held (columns.Row values) = map (λ value. value ∷ []) values

-- Each value of one row can be written.
abbrev pub AreShort : Columns → Type 0
AreShort (columns.Each each) = Unit {0}
AreShort (columns.Row values) = sum_by length values < 2 ^ 32
