use Rattle.std.proofs.Common.{map, take}
use Rattle.std.specs.Arc.{arc_value}
use Rattle.part_store.specs.State.{day_part_of}
use Rattle.merge_plan.specs.Grouping.{ArePieces}
use Rattle.merge_plan.proofs.pieces.pieces_of.Given as goal

abbrev pub invariant-loop-batch : goal.invariant-loop-batch
invariant-loop-batch l = ArePieces (take l.batch-index (map arc_value l.batches)) (map day_part_of l.pieces.items)
