use Rattle.std.proofs.Common.{◌+◌, arith}
use Rattle.part_file.proofs.HoldLaws.{weight-more, weight-part}
use Rattle.part_file.proofs.filled.weight_of.Goals as goal

pub overflow_add-weight : goal.overflow_add-weight
overflow_add-weight c =
    omega (
      arith,
      weight-more c.args.blocks.now c.loop-block.block-index c.block-item.result c.loop-block-test.true
          c.block-item.is,
      weight-part c.args.blocks.now (c.loop-block.block-index + 1),
      c.weight-weight.ensures,
      c.requires,
      c.loop-block.invariant,
    )

pub loop-block-preserved : goal.loop-block-preserved
loop-block-preserved c =
    omega (
      arith,
      weight-more c.args.blocks.now c.loop-block.block-index c.block-item.result c.loop-block-test.true
          c.block-item.is,
      c.weight-weight.ensures,
      c.loop-block.invariant,
    )
