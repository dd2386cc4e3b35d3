use Rattle.std.proofs.Common.{◌≡◌, ◌∙◌, arith, ap}
use Rattle.log_model.specs.History.{Numbered}
use Rattle.block_body.specs.Outlines.{outline_of}
use Rattle.column_block.proofs.OpenLaws.{column-count}
use Rattle.column_block.proofs.cells.count_of.Goals as goal

pub value_in-requires-clause-column : goal.value_in-requires-clause-column
value_in-requires-clause-column c =
    let head : c.head-head.result.now ≡ outline_of c.args.stored.now = c.head-head.ensures.outline in
    omega (
      arith,
      c.loop-c-test.true,
      c.columns-c-end.ensures,
      column-count c.args.stored.now c.head-head.result.now head,
    )
