use Rattle.std.proofs.Common.{◌∙◌, add-one, arith}
use Rattle.std.proofs.lemmas.List.{get_or-set_other, length-set}
use Rattle.lq_prune.specs.Bound.{is_bound}
use Rattle.lq_prune.specs.Tree.{needed_of}
use Rattle.lq_prune.proofs.Lists.{meaning-kept, one-more-true}
use Rattle.lq_prune.proofs.binding.+binding.Goals as goal

pub bind_all-returns-in_err-bind-clause-same : goal.bind_all-returns-in_err-bind-clause-same
bind_all-returns-in_err-bind-clause-same t c =
    meaning-kept needed_of c.loop-i.trees.items c.loop-i.i c.index_mut.result.now c.bind.new.tree (omega arith)
    c.index_mut.ensures.value c.bind.ensures.same
    ∙ c.loop-i.invariant.same

pub bind_all-loop-i-preserved : goal.bind_all-loop-i-preserved
bind_all-loop-i-preserved t c =
    let within = c.loop-i.invariant.unvisited in
    record {
      bound = rw add-one (one-more-true (is_bound c.args.stream.now) c.loop-i.trees.items c.loop-i.i c.bind.new.tree
          (omega arith) c.loop-i.invariant.bound c.in_ok-bind.ensures.bound);
      same = meaning-kept needed_of c.loop-i.trees.items c.loop-i.i c.index_mut.result.now c.bind.new.tree (omega arith)
          c.index_mut.ensures.value c.bind.ensures.same
          ∙ c.loop-i.invariant.same;
      unvisited = (
        length-set c.loop-i.trees.items c.loop-i.i c.bind.new.tree ∙ within.0,
        λ k d le. get_or-set_other c.loop-i.trees.items c.loop-i.i k c.bind.new.tree d (λ e. omega (arith, e, le))
            ∙ within.1 k d (omega (arith, le)),
      );
    }
