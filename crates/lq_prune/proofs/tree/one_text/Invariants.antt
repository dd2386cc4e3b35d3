use Rattle.std.proofs.Common.{◌≡◌, map, take}
use Rattle.lq_prune.specs.Need.{text_needed}
use Rattle.lq_prune.specs.Tree.{needed_of}
use Rattle.lq_prune.proofs.tree.one_text.Given as goal

abbrev pub invariant-loop-text : goal.invariant-loop-text
invariant-loop-text l = map needed_of l.trees.items ≡ map (text_needed l.field) (take l.text-index l.texts)
