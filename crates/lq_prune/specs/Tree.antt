-- The need that a tree stands for.
use Rattle.lq_ast.specs.View.{groups_of}
use Rattle.lq_prune.specs.Need.{TheNeed, all_needed, one_needed, words_needed}
use Rattle.lq_prune.specs.Need as is
use Rattle.lq_prune.specs.declared.need.Need.{Need}
use Rattle.lq_prune.specs.declared.tree.Tree.{Tree, fold-Tree}
use Rattle.lq_prune.specs.declared.tree.Tree.TheOpen.{Tree-F}

abbrev layer : Tree-F TheNeed → TheNeed
layer Tree-F.Nothing = is.nothing
layer (Tree-F.Words field words) = words_needed field words.items
layer (Tree-F.Within from to) = is.time_within from to
layer (Tree-F.Stream selection) = is.stream_selected (groups_of selection.select)
layer (Tree-F.All trees) = all_needed trees.items
layer (Tree-F.Any trees) = one_needed trees.items

abbrev pub needed_of : Tree → TheNeed
needed_of = fold-Tree TheNeed layer

-- the need of a query
abbrev pub needed : Need → TheNeed
needed need = needed_of need.tree
