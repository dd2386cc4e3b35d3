use Rattle.std.proofs.lemmas.List.Elements.{All-push}
use Rattle.std.proofs.lemmas.Result.{err_from_is_err_and}
use Rattle.byte_format.proofs.Turns.{turn, turn-stops, turns-done}
use Rattle.block_format.specs.Columns.{HasRows, column}
use Rattle.block_format.proofs.columns.take_columns.Goals as goal

pub returns-in_err-column-clause-value : goal.returns-in_err-column-clause-value
returns-in_err-column-clause-value c =
    let p = err_from_is_err_and c.from_residual.result c.from_residual.ensures.1 in
    rw (p.1, p.2) (turn-stops c.in_err-column.field-0.0 (column c.args.rows) c.args.count c.loop.counter
    c.loop.columns.items c.loop.rest.now _ c.loop-test.true c.in_err-column.ensures.value c.loop.invariant.read)

pub loop-preserved : goal.loop-preserved
loop-preserved c = record {
  read = rw c.in_ok-push.ensures.items (turn (column c.args.rows) c.args.count c.loop.counter c.loop.columns.items
      c.in_ok-column.column c.loop.rest.now c.in_ok-column.after.now _ c.loop-test.true c.in_ok-column.ensures.value
      c.loop.invariant.read);
  rows = rw c.in_ok-push.ensures.items (All-push (HasRows c.args.rows) c.loop.columns.items c.in_ok-column.column
      c.loop.invariant.rows c.in_ok-column.ensures.rows);
}

pub returns-clause-value : goal.returns-clause-value
returns-clause-value c =
    turns-done (column c.args.rows) c.args.count c.loop.counter c.loop.columns.items c.loop.rest.now _
    c.loop-test.false c.loop.invariant.read
