use Rattle.lq_order.proofs.Picked.{AreTaken}
use Rattle.lq_order.proofs.sort.moved.Given as goal

abbrev pub invariant-loop-place : goal.invariant-loop-place
invariant-loop-place l = AreTaken l.initial.records.items l.records.items l.places l.moved.items l.place-index
