use Rattle.std.proofs.Common.{◌≡◌, drop, map}
use Rattle.lq_ast.specs.Made.{made}
use Rattle.lq_ast.specs.Making.{math}
use Rattle.lq_ast.specs.MakingView.{math_item}
use Rattle.row_pipes.proofs.math.math.Given as goal

-- The items that are left make of the record so far what all items make of the first one.
abbrev pub invariant-loop-item : goal.invariant-loop-item
invariant-loop-item l =
    made (math (map math_item (drop l.item-index l.items))) l.r ≡ made (math (map math_item l.fn.items)) l.fn.r
