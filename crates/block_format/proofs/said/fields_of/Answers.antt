use Rattle.lent_row.specs.Cells.{value_text}
use Rattle.block_format.proofs.SaidLaws.{set-more}
use Rattle.block_format.proofs.said.fields_of.Goals as goal

pub loop-name-preserved : goal.loop-name-preserved
loop-name-preserved c =
    set-more c.args.columns.now c.loop-name.name-index c.args.i c.loop-name-item.result (value_text c.value.result)
    c.loop-name.fields c.set_value.new.fields c.loop-name-test.true c.loop-name-item.is c.value.ensures
    c.loop-name.invariant c.in_ok-set_value.ensures
