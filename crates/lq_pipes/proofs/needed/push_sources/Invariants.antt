use Rattle.std.proofs.Common.{◌≡◌, ◌++◌, map, take}
use Rattle.lq_ast.specs.PipeView.{name_pair}
use Rattle.lq_pipes.proofs.needed.push_sources.Given as goal

abbrev pub invariant-loop-pair : goal.invariant-loop-pair
invariant-loop-pair l = l.names.items ≡ l.initial.names.items ++ map (λ pair. pair.0) (map name_pair
    (take l.pair-index l.pairs))
