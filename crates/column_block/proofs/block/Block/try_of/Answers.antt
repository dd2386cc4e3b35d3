use Rattle.std.proofs.Common.{◌∙◌, subst, sym}
use Rattle.std.specs.List.{AllByRecursion}
use Rattle.block_format.specs.Rows.{IsBlock}
use Rattle.block_model.specs.Keys.{IsNumbered}
use Rattle.column_block.proofs.block.Block.try_of.Goals as goal

pub of_lent-requires : goal.of_lent-requires
of_lent-requires c = subst IsBlock (sym (c.as_slice.ensures.value ∙ c.in_ok-lent.ensures)) c.requires

pub returns-clause-rows : goal.returns-clause-rows
returns-clause-rows c = c.in_ok-block.ensures.rows ∙ c.as_slice.ensures.value ∙ c.in_ok-lent.ensures

pub returns-clause-rules : goal.returns-clause-rules
returns-clause-rules c =
    subst (AllByRecursion IsNumbered) (c.as_slice.ensures.value ∙ c.in_ok-lent.ensures) c.in_ok-block.ensures.rules
