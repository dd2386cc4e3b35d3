use Rattle.std.proofs.Common.{◌≡◌, ◌++◌, [], map}
use Rattle.std.specs.Prelude.{replicate}
use Rattle.lent_row.specs.Cells.{value_text}
use Rattle.block_gather.proofs.values.put_empty.Given as goal

abbrev pub invariant-loop : goal.invariant-loop
invariant-loop l = map value_text l.out.items ≡ map value_text l.initial.out.items ++ replicate l.counter []
