use Rattle.std.proofs.Common.{◌≡◌, flat_map, length, take}
use Rattle.std.specs.List.{AllByRecursion}
use Rattle.log_model.specs.Core.{parts_of}
use Rattle.lq_prune.specs.Tree.{needed}
use Rattle.lq_prune.specs.Pruning.{IsTextBlock}
use Rattle.part_model.specs.Filling.{blocks_of}
use Rattle.query_run.specs.Opened.{Counts, admitted_by}
use Rattle.query_run.proofs.opened.open_admitted.Given as goal

abbrev pub invariant-loop-part : goal.invariant-loop-part
invariant-loop-part g l = record {
  opened : l.opened.items
      ≡ admitted_by (needed l.initial.need) (flat_map blocks_of (take l.part (parts_of l.snapshot)));
  texts : AllByRecursion IsTextBlock (flat_map blocks_of (take l.part (parts_of l.snapshot)));
  steps : Counts l.initial.steps
      (length (admitted_by (needed l.initial.need) (flat_map blocks_of (take l.part (parts_of l.snapshot))))) l.steps;
  need : needed l.need ≡ needed l.initial.need;
}
