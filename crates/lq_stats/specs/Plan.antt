-- What plans of statistics ask, and what is gathered for them.
use Rattle.std.specs.Prelude.{◌≡◌, ℕ, List, [], ◌∷◌, map, length}
use Rattle.lq_ast.specs.Records.{Record}
use Rattle.lq_ast.specs.Stage.{GroupBy, Grouping}
use Rattle.lq_ast.specs.Tuples.{Tuple}
use Rattle.lq_stats.specs.Function.{statistic_of}
use Rattle.lq_stats.specs.Groups.{AreGroups}
use Rattle.lq_stats.specs.Key.{grouped_by}
use Rattle.lq_stats.specs.declared.gathered.Gathered.{Gathered}
use Rattle.lq_stats.specs.declared.plan.Plan.{Plan}

-- Without keys there is a group before there is a record.
abbrev pub opening : List GroupBy → List Tuple
opening [] = [] ∷ []
opening (key ∷ keys) = []

-- The plan asks what the grouping asks.
pub record IsPlanOf (plan : Plan) (grouping : Grouping) : Type 0 where
  pub keys : map grouped_by plan.keys.items ≡ grouping.keys
  pub statistics : map statistic_of plan.functions.items ≡ grouping.statistics

-- how many records it is of
abbrev pub gathered_rows : Gathered → ℕ
gathered_rows gathered = gathered.rows

-- It is what the grouping asks of these records.
pub record IsGathered (gathered : Gathered) (grouping : Grouping) (records : List Record) : Type 0 where
  pub count : gathered_rows gathered ≡ length records
  pub groups : AreGroups grouping.keys grouping.statistics gathered.groups (opening grouping.keys) records
