-- The pipes that set fields of each record (LogsQL, "Pipes that make fields").
use Rattle.std.specs.Prelude.{ℕ, List, ℤ}
use Rattle.lq_ast.specs.PatternText.{Pieces}
use Rattle.lq_ast.specs.declared.row_pipe.Op.{Op}

pub data Expression : Type 0 where
  whole : ℤ → Expression
  -- the value of a field
  value_of : List ℕ → Expression
  two : Op → Expression → Expression → Expression

-- an expression, and the name that gets its value
abbrev pub MathItem : Type 0
MathItem = Expression × List ℕ

pub data Making : Type 0 where
  -- the pattern, and the name whose value it is held against
  extract : Pieces → List ℕ → Making
  -- the pattern, and the name that is set
  format : Pieces → List ℕ → Making
  -- the name whose value is measured, and the name that is set
  len : List ℕ → List ℕ → Making
  math : List MathItem → Making
