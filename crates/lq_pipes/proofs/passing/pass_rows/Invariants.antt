use Rattle.std.proofs.Common.{length, map}
use Rattle.log_model.specs.Row.{record_of}
use Rattle.lq_ast.specs.PipeView.{stage}
use Rattle.lq_pipes.specs.Passing.{Passes}
use Rattle.lq_pipes.proofs.passing.pass_rows.Given as goal

abbrev pub invariant-loop-left : goal.invariant-loop-left
invariant-loop-left g l =
    Passes (map stage l.initial.left) (map stage l.left) (map (λ row. record_of (g.R.LentRow.event row)) l.initial.rows.items)
    (map (λ row. record_of (g.R.LentRow.event row)) l.rows.items)

abbrev pub decreases-loop-left : goal.decreases-loop-left
decreases-loop-left g l = length l.left
