use Rattle.std.proofs.Common.{◌∙◌, ap, arith, subst, sym}
use Rattle.log_model.specs.History.{AreOfOneBatch, with_batch}
use Rattle.part_file.proofs.BatchLaws.{changed-all, changed-more, next-one}
use Rattle.part_file.proofs.held.set_batches.Goals as goal

pub set_batch-requires : goal.set_batch-requires
set_batch-requires c =
    subst AreOfOneBatch c.block-item.is (next-one (with_batch c.args.number) c.args.blocks.now c.loop-block.blocks
    c.loop-block.block-index c.block-item.result (omega arith) c.loop-block.invariant c.block-item.is c.requires)

pub loop-block-preserved : goal.loop-block-preserved
loop-block-preserved c =
    changed-more (with_batch c.args.number) c.args.blocks.now c.loop-block.blocks c.loop-block.block-index
    c.block-item.result c.set_batch.new.self (omega arith) c.loop-block.invariant c.block-item.is (c.set_batch.ensures
    ∙ ap (with_batch c.args.number) (sym c.block-item.is))

pub returns : goal.returns
returns c =
    changed-all (with_batch c.args.number) c.args.blocks.now c.loop-block.blocks c.loop-block.block-index (omega arith)
    c.loop-block.invariant
