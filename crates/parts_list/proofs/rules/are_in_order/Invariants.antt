use Rattle.std.proofs.Common.{◌≡◌, length}
use Rattle.parts_list.specs.Listing.{are_in_order}
use Rattle.parts_list.proofs.rules.are_in_order.Given as goal

abbrev pub invariant-loop-rest : goal.invariant-loop-rest
invariant-loop-rest l = are_in_order l.rest ≡ are_in_order l.entries

abbrev pub decreases-loop-rest : goal.decreases-loop-rest
decreases-loop-rest l = length l.rest
