use Rattle.std.proofs.Common.{◌≡◌, take}
use Rattle.lq_ast.specs.Statistics.{values}
use Rattle.lq_plain.proofs.values.values.Given as goal

abbrev pub invariant-loop-name : goal.invariant-loop-name
invariant-loop-name l = l.made.items ≡ values (take l.name-index l.names) l.records
