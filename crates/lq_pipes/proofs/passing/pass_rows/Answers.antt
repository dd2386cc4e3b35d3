use Rattle.std.proofs.Common.{map}
use Rattle.log_model.specs.Row.{record_of}
use Rattle.lq_ast.specs.PipeView.{stage}
use Rattle.lq_pipes.proofs.Rowwise.{head_left, passes_more}
use Rattle.lq_pipes.proofs.passing.pass_rows.Goals as goal

pub loop-left-preserved : goal.loop-left-preserved
loop-left-preserved g c =
    let left = c.loop-left.left.now in
    let pipe = c.pipe-item.result in
    let kept = rw c.if-not-branch.false at c.in_ok-pass.ensures in
    passes_more (map stage c.args.pipes.now) (map stage left) _ (stage pipe)
    (map (λ row. record_of (g.R.LentRow.event row)) c.args.rows.now.items) (map (λ row. record_of (g.R.LentRow.event row)) c.loop-left.rows.items)
    (map (λ row. record_of (g.R.LentRow.event row)) c.pass.new.rows.items) c.loop-left.invariant
    (head_left stage left pipe c.in-len1-up.len_at_least c.pipe-item.is) kept
