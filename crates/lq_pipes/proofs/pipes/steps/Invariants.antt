use Rattle.std.proofs.Common.{map}
use Rattle.std.specs.List.{AllByRecursion}
use Rattle.lq_ast.specs.Patterns.{patterns_of_stage}
use Rattle.lq_ast.specs.PipeView.{stage}
use Rattle.lq_filter.proofs.Refusals.{Left}
use Rattle.lq_pipes.specs.Steps.{IsPlanned, stage_of}
use Rattle.lq_pipes.proofs.pipes.steps.Given as goal

abbrev pub invariant-loop-pipe : goal.invariant-loop-pipe
invariant-loop-pipe l = record {
  planned : AllByRecursion IsPlanned l.steps.items;
  left : Left stage (λ pipe. patterns_of_stage (stage pipe)) l.pipes 0 l.pipe-index (map stage_of l.steps.items) l.nth;
}
