-- What partial statistics stand for.
use Rattle.std.specs.Prelude.{ℕ, List}
use Rattle.lq_ast.specs.Records.{Record}
use Rattle.lq_ast.specs.Stage.{Grouping}
use Rattle.lq_stats.specs.Plan.{IsGathered, IsPlanOf, gathered_rows}
use Rattle.lq_stats.specs.declared.partial.Partial.{Partial}

-- how many records it has taken
abbrev pub rows : Partial → ℕ
rows partial = gathered_rows partial.gathered

-- The partial statistics stand for what this grouping asks of these records.
pub record StandsFor (partial : Partial) (grouping : Grouping) (records : List Record) : Type 0 where
  pub planned : IsPlanOf partial.plan grouping
  pub taken : IsGathered partial.gathered grouping records
