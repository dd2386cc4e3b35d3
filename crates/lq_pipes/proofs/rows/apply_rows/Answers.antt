use Rattle.std.proofs.Common.{map}
use Rattle.log_model.specs.Row.{record_of}
use Rattle.lq_ast.specs.PipeView.{stage}
use Rattle.lq_pipes.proofs.Refusing.{pipe_fault}
use Rattle.lq_pipes.proofs.rows.apply_rows.Goals as goal

pub returns-clause-fault : goal.returns-clause-fault
returns-clause-fault g c =
    pipe_fault c.apply_steps.result (map stage c.args.pipes.now) (map stage c.in_ok-pipes.pipes.now)
    (map (λ row. record_of (g.R.LentRow.event row)) c.args.rows.items)
    (map (λ row. record_of (g.R.LentRow.event row)) c.pass_rows.new.rows.items)
    c.in_ok-pipes.ensures c.in_ok-steps.ensures.readable (rw c.as_slice-2.ensures.value at c.apply_steps.ensures.fault)
