use Rattle.std.proofs.Common.{◌≡◌, map, take}
use Rattle.lq_filter.specs.Value.{field_holds}
use Rattle.block_scan.proofs.values.answers_of.Given as goal

abbrev pub invariant-loop-i : goal.invariant-loop-i
invariant-loop-i l = l.answers.items ≡ map (field_holds l.field) (take l.i l.texts)
