use Rattle.std.proofs.lemmas.Result.{err_from_is_err_and}
use Rattle.byte_format.proofs.Turns.{turn, turn-stops, turns-done}
use Rattle.block_format.specs.Labels.{label}
use Rattle.block_format.proofs.labels.take_each.Goals as goal

pub returns-in_err-label : goal.returns-in_err-label
returns-in_err-label c =
    let p = err_from_is_err_and c.from_residual.result c.from_residual.ensures.1 in
    rw (p.1, p.2) (turn-stops c.in_err-label.field-0.0 label c.args.count c.loop.counter c.loop.labels.items
    c.loop.rest.now _ c.loop-test.true c.in_err-label.ensures c.loop.invariant)

pub loop-preserved : goal.loop-preserved
loop-preserved c =
    rw c.in_ok-push.ensures.items (turn label c.args.count c.loop.counter c.loop.labels.items c.in_ok-label.label
    c.loop.rest.now c.in_ok-label.after.now _ c.loop-test.true c.in_ok-label.ensures c.loop.invariant)

pub returns : goal.returns
returns c = turns-done label c.args.count c.loop.counter c.loop.labels.items c.loop.rest.now _ c.loop-test.false
    c.loop.invariant
