use Rattle.std.proofs.Common.{◌≡◌, map, take, true}
use Rattle.std.specs.List.{list_all}
use Rattle.lq_ast.specs.View.{condition}
use Rattle.lq_prune.specs.Need.{need_of}
use Rattle.lq_prune.specs.Texts.{has_texts}
use Rattle.lq_prune.specs.Tree.{needed_of}
use Rattle.lq_prune.proofs.tree.+needing.Given as goal

abbrev pub invariant-trees-loop-filter : goal.invariant-trees-loop-filter
invariant-trees-loop-filter l = record {
  need : map needed_of l.trees.items
      ≡ map (λ filter. need_of l.now (condition filter)) (take l.filter-index l.filters);
  utf8 : list_all (λ filter. has_texts (condition filter)) (take l.filter-index l.filters) ≡ true;
}
