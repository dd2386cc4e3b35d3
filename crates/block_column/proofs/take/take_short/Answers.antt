use Rattle.block_column.proofs.BodyLaws.{text-short}
use Rattle.block_column.proofs.take.take_short.Goals as goal

pub returns-clause-short : goal.returns-clause-short
returns-clause-short c =
    text-short c.args.bytes.now c.in_ok-text.text.now c.in_ok-text.rest.now (λ i. (c.type_inv.bytes i).fits) c.in_ok-text.ensures
