use Rattle.std.proofs.Common.{take}
use Rattle.std.specs.List.{AllByRecursion}
use Rattle.block_format.specs.Labels.{IsShortLabel}
use Rattle.block_format_tests.proofs.part_tests.are_short.Given as goal

abbrev pub invariant-loop-label : goal.invariant-loop-label
invariant-loop-label l = AllByRecursion IsShortLabel (take l.label-index l.labels)
