use Rattle.std.proofs.Common.{◌≡◌, ◌++◌, flat_map, map, take}
use Rattle.lq_ast.specs.MakingView.{math_item}
use Rattle.lq_pipes.specs.Needs.{named_in_item}
use Rattle.lq_pipes.proofs.needed.push_items.Given as goal

abbrev pub invariant-loop-item : goal.invariant-loop-item
invariant-loop-item l =
    l.names.items ≡ l.initial.names.items ++ flat_map named_in_item (map math_item (take l.item-index l.items))
