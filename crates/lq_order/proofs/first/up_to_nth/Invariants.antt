use Rattle.std.proofs.Common.{◌≡◌, take}
use Rattle.std.specs.List.{filter}
use Rattle.lq_order.specs.Column.{is_up_to}
use Rattle.lq_order.proofs.first.up_to_nth.Given as goal

abbrev pub invariant-loop-place : goal.invariant-loop-place
invariant-loop-place l = l.kept.items ≡ filter (is_up_to l.columns l.last) (take l.place-index l.places)
