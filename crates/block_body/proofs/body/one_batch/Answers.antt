use Rattle.std.proofs.Common.{◌∙◌, sym}
use Rattle.block_body.proofs.StoreLaws.{one-batch}
use Rattle.block_body.proofs.body.one_batch.Goals as goal

pub returns : goal.returns
returns c = one-batch c.args.keys.now _ (sym c.are_of.ensures ∙ c.if-not-are_of.false)
