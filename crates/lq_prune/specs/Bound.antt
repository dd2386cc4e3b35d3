-- Which stream the selectors of a tree were asked of.
use Rattle.std.specs.Prelude.{Bool, true, not, List, IsTrue, map, if◌then◌else◌}
use Rattle.std.specs.List.{list_all}
use Rattle.log_model.specs.Field.{Field}
use Rattle.lq_ast.specs.Holds.{selects}
use Rattle.lq_ast.specs.View.{groups_of}
use Rattle.lq_prune.specs.declared.need.Need.{Need}
use Rattle.lq_prune.specs.declared.selection.Selection.{Selection}
use Rattle.lq_prune.specs.declared.tree.Tree.{Tree, fold-Tree}
use Rattle.lq_prune.specs.declared.tree.Tree.TheOpen.{Tree-F}

-- The answer that is kept is that of the stream with these labels.
abbrev pub is_answered : List Field → Selection → Bool
is_answered labels selection =
    if selects (groups_of selection.select) labels then selection.is_selected else not selection.is_selected

abbrev layer : List Field → Tree-F Bool → Bool
layer labels Tree-F.Nothing = true
layer labels (Tree-F.Words field words) = true
layer labels (Tree-F.Within from to) = true
layer labels (Tree-F.Stream selection) = is_answered labels selection
layer labels (Tree-F.All trees) = list_all (λ is_bound. is_bound) trees.items
layer labels (Tree-F.Any trees) = list_all (λ is_bound. is_bound) trees.items

-- So are all answers of the tree.
abbrev pub is_bound : List Field → Tree → Bool
is_bound labels = fold-Tree Bool (layer labels)

-- and those of all trees
abbrev pub are_bound : List Field → List Tree → Bool
are_bound labels trees = list_all (λ is_bound. is_bound) (map (is_bound labels) trees)

-- The need is bound to the stream with these labels.
abbrev pub IsBound : Need → List Field → Type 0
IsBound need labels = IsTrue (is_bound labels need.tree)
