use Rattle.std.proofs.Common.{◌≡◌}
use Rattle.log_model.specs.History.{Numbered}
use Rattle.log_model.specs.Row.{value_of}
use Rattle.lq_filter.specs.Value.{field_holds, field_name}
use Rattle.block_scan.proofs.Staying.{walked}
use Rattle.block_scan.proofs.leaves.keep_each.Given as goal

abbrev pub invariant-loop-i : goal.invariant-loop-i
invariant-loop-i l =
    l.marks
    ≡ walked (λ (numbered : Numbered). field_holds l.field (value_of numbered.row (field_name l.field))) l.i l.rows
    l.fn.marks
