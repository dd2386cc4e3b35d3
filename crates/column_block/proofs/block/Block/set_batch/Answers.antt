use Rattle.std.proofs.Common.{subst, sym}
use Rattle.log_model.specs.History.{AreOfOneBatch}
use Rattle.column_block.proofs.block.Block.set_batch.Goals as goal

pub set_batch-requires : goal.set_batch-requires
set_batch-requires c = subst AreOfOneBatch (sym c.self.view_is) c.requires
