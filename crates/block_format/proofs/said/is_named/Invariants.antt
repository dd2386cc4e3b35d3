use Rattle.std.proofs.Common.{◌≡◌, take, true}
use Rattle.std.specs.List.{list_all}
use Rattle.log_model.specs.Field.{is_empty}
use Rattle.block_format.proofs.said.is_named.Given as goal

abbrev pub invariant-loop-i : goal.invariant-loop-i
invariant-loop-i l = list_all is_empty (take l.i l.column-inside.values) ≡ true
