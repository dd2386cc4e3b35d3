use Rattle.std.proofs.Common.{◌≡◌}
use Rattle.std.specs.Fmt.{signed_decimal}
use Rattle.lq_filter.specs.Value.{field_holds}
use Rattle.block_scan.proofs.Staying.{walked}
use Rattle.block_scan.proofs.values.keep_decimals.Given as goal

abbrev pub invariant-loop-i : goal.invariant-loop-i
invariant-loop-i l = l.marks ≡ walked (λ int. field_holds l.field (signed_decimal int)) l.i l.ints l.fn.marks
