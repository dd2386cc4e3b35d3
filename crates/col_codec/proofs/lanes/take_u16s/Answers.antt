use Rattle.std.specs.Int.{w16}
use Rattle.std.proofs.lemmas.Result.{err_from_is_err_and}
use Rattle.byte_format.specs.Items.{number}
use Rattle.byte_format.proofs.Turns.{turn, turn-stops, turns-done}
use Rattle.col_codec.proofs.lanes.take_u16s.Goals as goal

pub returns-in_err-n : goal.returns-in_err-n
returns-in_err-n c =
    let p = err_from_is_err_and c.from_residual-in_err-n.result c.from_residual-in_err-n.ensures.1 in
    rw (p.1, p.2) (turn-stops c.in_err-n.field-0.0 (number w16) c.args.count c.loop.counter c.loop.numbers.items
    c.loop.rest.now _
    c.loop-test.true c.in_err-n.ensures c.loop.invariant)

pub loop-preserved : goal.loop-preserved
loop-preserved c =
    rw c.in_ok-push.ensures.items (turn (number w16) c.args.count c.loop.counter c.loop.numbers.items c.in_ok-n.n
    c.loop.rest.now
    c.in_ok-n.after.now _ c.loop-test.true c.in_ok-n.ensures c.loop.invariant)

pub returns : goal.returns
returns c = turns-done (number w16) c.args.count c.loop.counter c.loop.numbers.items c.loop.rest.now _
    c.loop-test.false c.loop.invariant
