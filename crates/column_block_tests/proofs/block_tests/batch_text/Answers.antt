use Rattle.std.proofs.Common.{◌≡◌, subst, sym}
use Rattle.log_model.specs.History.{AreOfOneBatch}
use Rattle.column_block_tests.proofs.block_tests.batch_text.Goals as goal

pub set_batch-requires : goal.set_batch-requires
set_batch-requires c =
    let same = (rw c.in-Some.is at c.in_ok-block.ensures) in
    subst AreOfOneBatch (sym same) (c.are_of_one_batch.ensures c.if-not-are_of_one_batch.false)
