use Rattle.std.proofs.Common.{◌∙◌}
use Rattle.lq_prune.specs.Bound.{is_bound}
use Rattle.lq_prune.specs.Tree.{needed_of}
use Rattle.lq_prune.proofs.Lists.{all-answers, all-list, one-list}
use Rattle.lq_prune.proofs.admitting.+admitting.Goals as goal

pub all_admit-loop-tree-init : goal.all_admit-loop-tree-init
all_admit-loop-tree-init t c =
    record {
      bound = all-answers (is_bound c.args.head.now.labels) c.args.trees.now ∙ c.requires;
      left = all-list needed_of c.args.head.now c.args.trees.now;
    }

pub some_admits-loop-tree-init : goal.some_admits-loop-tree-init
some_admits-loop-tree-init t c =
    record {
      bound = all-answers (is_bound c.args.head.now.labels) c.args.trees.now ∙ c.requires;
      left = one-list needed_of c.args.head.now c.args.trees.now;
    }
