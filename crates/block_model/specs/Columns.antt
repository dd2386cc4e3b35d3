-- The columns of rows: one for each field name that some row has, with an empty value where a row has no such field.
-- And the rows that columns say.
use Rattle.std.specs.Prelude.{ℕ, suc, List, [], ◌∷◌, map, slice_index_or, unsigned_abs}
use Rattle.std.specs.BTreeSet.{insert_key}
use Rattle.std.specs.List.{flat_map, fold}
use Rattle.block_model.specs.Distinct.{distinct}
use Rattle.log_model.specs.Field.{Field, bytes_cmp, field_value, set_all}
use Rattle.log_model.specs.History.{Numbered}
use Rattle.block_model.specs.declared.keys.Key.{Key}

abbrev pub names_in : List Field → List (List ℕ)
names_in fields = map (λ field. field.0) fields

-- each name once, in byte order
abbrev pub names_of : List Numbered → List (List ℕ)
names_of rows = distinct (flat_map (λ numbered. names_in numbered.row.fields) rows)

-- some names in order, and those of some more fields
abbrev pub put_names : List (List ℕ) → List Field → List (List ℕ)
put_names names fields = fold (insert_key bytes_cmp) names (names_in fields)

abbrev pub values_of : List Numbered → List ℕ → List (List ℕ)
values_of rows name = map (λ numbered. field_value numbered.row.fields name) rows

-- a name, and the value of each row
abbrev pub Column : Type 0
Column = List ℕ × List (List ℕ)

abbrev pub columns_of : List Numbered → List Column
columns_of rows = map (λ name. (name, values_of rows name)) (names_of rows)

-- what the columns say of the row at this place
abbrev pub fields_at : List Column → ℕ → List Field
fields_at columns i = set_all [] (map (λ column. (column.0, slice_index_or column.1 i [])) columns)

abbrev pub row_of : List Field → Key → List Field → Numbered
row_of labels key fields = record {
  batch = key.batch;
  place = key.place;
  row = record { moment = unsigned_abs key.time; labels = labels; fields = fields };
}

-- the rows of these keys, of which the first is at this place in the columns
abbrev pub rows_from : List Field → List Column → ℕ → List Key → List Numbered
rows_from labels columns i [] = []
rows_from labels columns i (key ∷ keys) =
    row_of labels key (fields_at columns i) ∷ rows_from labels columns (suc i) keys
