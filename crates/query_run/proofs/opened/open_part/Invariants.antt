use Rattle.std.proofs.Common.{◌≡◌, ◌++◌, length, take}
use Rattle.std.specs.List.{AllByRecursion}
use Rattle.lq_prune.specs.Tree.{needed}
use Rattle.lq_prune.specs.Pruning.{IsTextBlock}
use Rattle.query_run.specs.Opened.{Counts, admitted_by}
use Rattle.query_run.proofs.opened.open_part.Given as goal

abbrev pub invariant-loop-block : goal.invariant-loop-block
invariant-loop-block g l = record {
  opened : l.opened.items ≡ l.initial.opened.items
      ++ admitted_by (needed l.initial.need) (take l.block-index l.blocks);
  texts : AllByRecursion IsTextBlock (take l.block-index l.blocks);
  steps : Counts l.initial.steps (length (admitted_by (needed l.initial.need) (take l.block-index l.blocks))) l.steps;
  need : needed l.need ≡ needed l.initial.need;
}
