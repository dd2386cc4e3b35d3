use Rattle.std.proofs.Common.{◌∙◌, sym}
use Rattle.block_body.proofs.BatchLaws.{one-batch-from}
use Rattle.column_block_tests.proofs.block_tests.are_of_one_batch.Goals as goal

pub returns : goal.returns
returns c e = one-batch-from _ c.args.rows.now (sym c.are_of.ensures ∙ e)
