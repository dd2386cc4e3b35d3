use Rattle.std.proofs.Common.{map, take}
use Rattle.lq_ast.specs.PipeView.{sort_by}
use Rattle.lq_order.specs.Column.{columns_cmp}
use Rattle.lq_order.specs.Mirror.{Mirrors}
use Rattle.lq_ast.specs.Sorting.{record_cmp}
use Rattle.lq_order.proofs.column.columns.Given as goal

abbrev pub invariant-loop-key : goal.invariant-loop-key
invariant-loop-key l =
    Mirrors (columns_cmp l.columns.items) (record_cmp (map sort_by (take l.key-index l.keys))) l.records
