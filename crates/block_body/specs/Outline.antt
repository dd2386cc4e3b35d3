-- What is known of a block without its values.
use Rattle.std.specs.Prelude.{ℕ, ℤ, List}
use Rattle.log_model.specs.Field.{Field}

-- a name, and the words of 64 bits of a filter
abbrev pub NamedFilter : Type 0
NamedFilter = List ℕ × List ℕ

pub record Outline : Type 0 where
  pub labels : List Field
  pub min : ℤ
  pub max : ℤ
  pub rows : ℕ
  pub weight : ℕ
  pub columns : List NamedFilter
