use Rattle.std.proofs.Common.{◌≡◌, drop, map, option_map, ◌++◌}
use Rattle.lq_ast.specs.PipeView.{stage}
use Rattle.lq_pipes.specs.Needs.{needed}
use Rattle.lq_pipes.proofs.needed.Needs.of.Given as goal

abbrev pub invariant-loop-pipe : goal.invariant-loop-pipe
invariant-loop-pipe l =
    needed (map stage l.pipes)
    ≡ option_map (λ later. l.names.items ++ later) (needed (map stage (drop l.pipe-index l.pipes)))
