use Rattle.std.proofs.Common.{map}
use Rattle.std.proofs.lemmas.List.{map_push}
use Rattle.std.proofs.lemmas.List.Elements.{All-push}
use Rattle.std.proofs.lemmas.Result.{err_from_is_err_and}
use Rattle.byte_format.proofs.Turns.{turn, turn-stops, turns-done}
use Rattle.part_file.specs.Blocks.{sized_block}
use Rattle.part_file.specs.Read.{WasRead, rows_of_items}
use Rattle.part_file.proofs.take.take_many.Goals as goal

pub returns-in_err-block-clause-items : goal.returns-in_err-block-clause-items
returns-in_err-block-clause-items c =
    let p = err_from_is_err_and c.from_residual-in_err-block.result c.from_residual-in_err-block.ensures.1 in
    rw (p.1, p.2) (turn-stops c.in_err-block.field-0.0 sized_block c.args.count c.loop.counter
    (map rows_of_items c.loop.blocks.items) c.loop.rest.now _ c.loop-test.true c.in_err-block.ensures.items
    c.loop.invariant.items)

pub loop-preserved : goal.loop-preserved
loop-preserved c = record {
  items = rw (c.in_ok-push.ensures.items, map_push rows_of_items c.loop.blocks.items c.in_ok-block.block) (turn sized_block
      c.args.count c.loop.counter (map rows_of_items c.loop.blocks.items) (rows_of_items c.in_ok-block.block)
      c.loop.rest.now c.in_ok-block.after.now _ c.loop-test.true c.in_ok-block.ensures.items c.loop.invariant.items);
  read = rw c.in_ok-push.ensures.items (All-push WasRead c.loop.blocks.items c.in_ok-block.block
      c.loop.invariant.read c.in_ok-block.ensures.read);
}

pub returns-clause-items : goal.returns-clause-items
returns-clause-items c =
    turns-done sized_block c.args.count c.loop.counter (map rows_of_items c.loop.blocks.items) c.loop.rest.now _
    c.loop-test.false c.loop.invariant.items
