use Rattle.std.proofs.Common.{None, Some, map, sym, ◌∙◌}
use Rattle.lq_ast.specs.PipeView.{stage}
use Rattle.lq_pipes.proofs.Enough.{enough_for, stops_here, stops_nowhere}
use Rattle.lq_pipes.proofs.needed.Needs.of.Goals as goal

pub returns-then-makes_anew-clause-enough : goal.returns-then-makes_anew-clause-enough
returns-then-makes_anew-clause-enough c =
    enough_for (map stage c.args.pipes.now) (Some c.push_pipe.new.names.items)
    (stops_here c.args.pipes.now c.loop-pipe.pipe-index c.loop-pipe.names.items c.loop-pipe.invariant c.pipe-item.result
    c.push_pipe.new.names.items c.loop-pipe-test.true c.pipe-item.is (sym c.makes_anew.ensures ∙ c.if-makes_anew.true)
    c.in_ok-push_pipe.ensures)

pub returns-clause-enough : goal.returns-clause-enough
returns-clause-enough c =
    enough_for (map stage c.args.pipes.now) None
    (stops_nowhere c.args.pipes.now c.loop-pipe.pipe-index c.loop-pipe.names.items c.loop-pipe.invariant
    c.loop-pipe-test.false)
