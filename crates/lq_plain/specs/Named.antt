-- Values paired with the names of their fields.
use Rattle.std.specs.Prelude.{◌≡◌, ℕ, List, []}
use Rattle.std.specs.List.{AllByRecursion, zip}
use Rattle.log_model.specs.Field.{Field}
use Rattle.lq_ast.specs.Tuples.{Tuple}

-- if the name is empty, so is the value
abbrev pub HasName : Field → Type 0
HasName field = field.0 ≡ [] → field.1 ≡ []

abbrev pub IsNamed : List (List ℕ) → Tuple → Type 0
IsNamed names tuple = AllByRecursion HasName (zip names tuple)
