use Rattle.std.proofs.Common.{ℕ, arith}
use Rattle.block_gather.proofs.WeightLaws.{text-more, text-small}
use Rattle.block_gather.proofs.column.weight_of.Goals as goal

pub cell_weight-weight-requires : goal.cell_weight-weight-requires
cell_weight-weight-requires c =
    text-small c.args.name c.args.texts.now c.loop-text.text-index _ c.loop-text-test.true c.requires

pub overflow_add-weight : goal.overflow_add-weight
overflow_add-weight c =
    let more = text-more c.args.name c.args.texts.now c.loop-text.text-index _ c.cell_weight-weight.result
    c.loop-text-test.true c.cell_weight-weight.ensures c.requires in
    record { fits = omega (arith, more.1, c.loop-text.invariant) }

pub loop-text-preserved : goal.loop-text-preserved
loop-text-preserved c =
    let more = text-more c.args.name c.args.texts.now c.loop-text.text-index _ c.cell_weight-weight.result
    c.loop-text-test.true c.cell_weight-weight.ensures c.requires in
    omega (arith, more.0, c.loop-text.invariant)
