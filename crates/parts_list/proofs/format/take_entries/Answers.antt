use Rattle.std.proofs.lemmas.Result.{err_from_is_err_and}
use Rattle.byte_format.proofs.Turns.{turn, turn-stops, turns-done}
use Rattle.parts_list.specs.Format.{entry}
use Rattle.parts_list.proofs.format.take_entries.Goals as goal

pub returns-in_err-entry : goal.returns-in_err-entry
returns-in_err-entry c =
    let p = err_from_is_err_and c.from_residual-in_err-entry.result c.from_residual-in_err-entry.ensures.1 in
    rw (p.1, p.2) (turn-stops c.in_err-entry.field-0.0 (entry c.args.next_file) c.args.count c.loop.counter
    c.loop.entries.items c.loop.rest.now _ c.loop-test.true c.in_err-entry.ensures c.loop.invariant)

pub loop-preserved : goal.loop-preserved
loop-preserved c =
    rw c.in_ok-push.ensures.items (turn (entry c.args.next_file) c.args.count c.loop.counter c.loop.entries.items
    c.in_ok-entry.entry c.loop.rest.now c.in_ok-entry.after.now _ c.loop-test.true c.in_ok-entry.ensures
    c.loop.invariant)

pub returns : goal.returns
returns c = turns-done (entry c.args.next_file) c.args.count c.loop.counter c.loop.entries.items c.loop.rest.now _
    c.loop-test.false c.loop.invariant
