-- What a tree of `regex` finds, beside the text that it was read from.
use Rattle.std.specs.Prelude.{◌≡◌, ℕ, ◌<◌, List, slice_index, is_some}
use Rattle.regex.specs.Patterns.{Re, find_str}
use Rattle.lq_ast.specs.Patterns.{is_found}

-- It is found where the pattern of the text is.
pub record FindsAs (tree : Re) (text : List ℕ) : Type 0 where
  pub finds : (value : List ℕ) → ((k : ℕ) → slice_index value k < 256)
      → is_some (find_str tree value 0) ≡ is_found text value
