use Rattle.std.proofs.Common.{refl}
use Rattle.lq_ast.specs.Patterns.{patterns_of_stage}
use Rattle.lq_ast.specs.PipeView.{stage}
use Rattle.lq_filter.proofs.Refusals.{counted_mapped, handed_on, readable_mapped, refused_mapped, unread_behind}
use Rattle.lq_filter.proofs.Refusals.{unread_counted, unread_readable, unread_refused}
use Rattle.lq_filter.proofs.pipes.read_pipes.Goals as goal

pub returns-in_err-read_pipe-clause-refused : goal.returns-in_err-read_pipe-clause-refused
returns-in_err-read_pipe-clause-refused c =
    let here = unread_refused (λ pipe. patterns_of_stage (stage pipe)) c.args.pipes.now c.args.nth.now
    c.loop-pipe.pipe-index c.loop-pipe.nth c.loop-pipe.invariant c.pipe-item.result c.loop-pipe-test.true
    c.pipe-item.is c.in_err-read_pipe.field-0.0 c.in_err-read_pipe.ensures.refused in
    handed_on c.from_residual.result _ _ c.from_residual.ensures.1
    (refused_mapped patterns_of_stage stage c.args.pipes.now c.args.pipes.now refl c.args.nth.now _ here)

pub loop-pipe-preserved : goal.loop-pipe-preserved
loop-pipe-preserved c =
    unread_behind (λ pipe. patterns_of_stage (stage pipe)) c.args.pipes.now c.args.nth.now c.loop-pipe.pipe-index
    c.loop-pipe.nth c.loop-pipe.invariant c.pipe-item.result c.loop-pipe-test.true c.pipe-item.is
    c.read_pipe.new.nth (c.in_ok-read_pipe.ensures.counted refl) c.in_ok-read_pipe.ensures.readable

pub returns-clause-counted : goal.returns-clause-counted
returns-clause-counted c = λ _.
    counted_mapped patterns_of_stage stage c.args.pipes.now c.args.pipes.now refl c.args.nth.now c.loop-pipe.nth
    (unread_counted (λ pipe. patterns_of_stage (stage pipe)) c.args.pipes.now c.args.nth.now c.loop-pipe.pipe-index
    c.loop-pipe.nth c.loop-pipe.invariant c.loop-pipe-test.false)

pub returns-clause-readable : goal.returns-clause-readable
returns-clause-readable c =
    readable_mapped patterns_of_stage stage c.args.pipes.now c.args.pipes.now refl
    (unread_readable (λ pipe. patterns_of_stage (stage pipe)) c.args.pipes.now c.args.nth.now c.loop-pipe.pipe-index
    c.loop-pipe.nth c.loop-pipe.invariant c.loop-pipe-test.false)
