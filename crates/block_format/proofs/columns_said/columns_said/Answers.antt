use Rattle.std.proofs.Common.{◌∙◌, List, ap, filter, map, subst, sym}
use Rattle.std.specs.List.{AllByRecursion}
use Rattle.std.proofs.lemmas.List.{take_all}
use Rattle.std.proofs.lemmas.List.Elements.{All-from_recursion}
use Rattle.block_format.specs.Columns.{IsWhole, LentColumn, lent_column}
use Rattle.block_format.specs.Reading.{has_name}
use Rattle.block_model.specs.Columns.{Column, fields_at}
use Rattle.block_format.proofs.LastLaws.{named-more, nothing-said}
use Rattle.block_format.proofs.columns_said.columns_said.Goals as goal

pub loop-column-init : goal.loop-column-init
loop-column-init c = record {
  fields = λ i. ap (λ (l : List LentColumn). fields_at (map lent_column l) i) c.new-last.ensures.empty;
  said = nothing-said c.args.rows c.new-last.result.entries c.new-last.ensures.empty;
}

pub loop-column-preserved : goal.loop-column-preserved
loop-column-preserved c = record {
  fields = λ i.
      c.in_ok-put_last.ensures.fields i ∙ named-more c.args.columns.now c.loop-column.column-index
      c.column-item.result _ i c.loop-column-test.true c.column-item.is (c.loop-column.invariant.fields i);
  said = c.in_ok-put_last.ensures.said;
}

pub returns-clause-fields : goal.returns-clause-fields
returns-clause-fields c =
    λ i. ap (λ (l : List LentColumn). fields_at (map lent_column l) i) c.in_ok-said.ensures
    ∙ c.loop-column.invariant.fields i
    ∙ ap (λ (l : List Column). fields_at (filter has_name l) i) (take_all c.loop-column.column-index
    c.args.columns.now c.loop-column-test.false)

pub returns-clause-whole : goal.returns-clause-whole
returns-clause-whole c =
    All-from_recursion (IsWhole c.args.rows) c.in_ok-said.said.items (subst (AllByRecursion (IsWhole c.args.rows)) (sym
    c.in_ok-said.ensures) c.loop-column.invariant.said.whole)
