-- The fields on the two sides of a name's place.
use Rattle.std.specs.Prelude.{ℕ, Bool, List, [], ◌∷◌, if◌then◌else◌}
use Rattle.std.specs.Ordering.{is_gt}
use Rattle.log_model.specs.Field.{Field, bytes_cmp}

abbrev pub is_after : List ℕ → Field → Bool
is_after name field = is_gt (bytes_cmp name field.0)

-- the first fields, as long as their names come before this one
abbrev pub fields_before : List ℕ → List Field → List Field
fields_before name [] = []
fields_before name (field ∷ fields) = if is_after name field then field ∷ fields_before name fields else []

-- the fields after those
abbrev pub fields_from : List ℕ → List Field → List Field
fields_from name [] = []
fields_from name (field ∷ fields) = if is_after name field then fields_from name fields else field ∷ fields
