use Rattle.std.proofs.Common.{◌≡◌, take}
use Rattle.std.specs.List.{filter}
use Rattle.lq_ast.specs.Holds.{record_holds}
use Rattle.lq_ast.specs.View.{condition}
use Rattle.lq_plain.proofs.functions.matching_records.Given as goal

abbrev pub invariant-loop-fields : goal.invariant-loop-fields
invariant-loop-fields l = l.kept.items ≡ filter (record_holds (condition l.only)) (take l.fields-index l.records)
