use Rattle.std.proofs.Common.{◌≡◌, drop}
use Rattle.part_model.specs.Order.{labels_cmp}
use Rattle.part_model.proofs.order.labels_cmp.Given as goal

abbrev pub invariant-loop-i : goal.invariant-loop-i
invariant-loop-i l = labels_cmp l.labels l.others ≡ labels_cmp (drop l.i l.labels) (drop l.i l.others)
