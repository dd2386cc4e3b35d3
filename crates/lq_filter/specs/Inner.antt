-- The condition that a filter of records was prepared from.
use Rattle.lq_ast.specs.Condition.{Condition}
use Rattle.lq_filter.specs.Tree.{condition_of_tree}
use Rattle.lq_filter.specs.declared.inner.Inner.{Inner}
use Rattle.lq_filter.specs.declared.inner.RecordScan.{RecordScan}

-- the condition of the filter that was prepared
abbrev pub inner_condition : Inner → Condition
inner_condition inner = condition_of_tree inner.filter

-- the condition of the filter of a scan of records
abbrev pub record_condition : RecordScan → Condition
record_condition scan = condition_of_tree scan.filter.now
