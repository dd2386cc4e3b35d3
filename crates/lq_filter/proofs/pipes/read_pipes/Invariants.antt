use Rattle.lq_ast.specs.Patterns.{patterns_of_stage}
use Rattle.lq_ast.specs.PipeView.{stage}
use Rattle.lq_filter.proofs.Refusals.{Unread}
use Rattle.lq_filter.proofs.pipes.read_pipes.Given as goal

abbrev pub invariant-loop-pipe : goal.invariant-loop-pipe
invariant-loop-pipe l = Unread (λ pipe. patterns_of_stage (stage pipe)) l.pipes l.fn.nth l.pipe-index l.nth
