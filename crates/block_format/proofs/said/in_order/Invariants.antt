use Rattle.std.proofs.Common.{◌≡◌, length}
use Rattle.block_format.specs.Reading.{in_order}
use Rattle.block_format.proofs.OrderLaws.{put_rows}
use Rattle.block_format.proofs.said.in_order.Given as goal

abbrev pub invariant-loop-row : goal.invariant-loop-row
invariant-loop-row l = put_rows l.rest.items l.sorted.items ≡ in_order l.initial.rest.items

abbrev pub decreases-loop-row : goal.decreases-loop-row
decreases-loop-row l = length l.rest.items
