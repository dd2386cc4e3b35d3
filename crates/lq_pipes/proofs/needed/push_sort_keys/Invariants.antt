use Rattle.std.proofs.Common.{◌≡◌, ◌++◌, map, take}
use Rattle.lq_ast.specs.PipeView.{sort_by}
use Rattle.lq_pipes.proofs.needed.push_sort_keys.Given as goal

abbrev pub invariant-loop-key : goal.invariant-loop-key
invariant-loop-key l = l.names.items ≡ l.initial.names.items ++ map (λ key. key.0) (map sort_by
    (take l.key-index l.keys))
