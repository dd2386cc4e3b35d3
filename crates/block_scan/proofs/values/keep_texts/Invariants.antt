use Rattle.std.proofs.Common.{◌≡◌}
use Rattle.lq_filter.specs.Value.{field_holds}
use Rattle.block_scan.proofs.Staying.{walked}
use Rattle.block_scan.proofs.values.keep_texts.Given as goal

abbrev pub invariant-loop-i : goal.invariant-loop-i
invariant-loop-i l = l.marks ≡ walked (field_holds l.field) l.i l.texts l.fn.marks
