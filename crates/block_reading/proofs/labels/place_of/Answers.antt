use Rattle.std.proofs.Common.{◌∙◌, ap, sym}
use Rattle.std.proofs.lemmas.List.Folds.{list_any_at}
use Rattle.block_model.specs.Columns.{Column}
use Rattle.block_reading.specs.ByColumns.{is_label}
use Rattle.block_reading.proofs.labels.place_of.Goals as goal

pub returns-then-is_label-clause-label : goal.returns-then-is_label-clause-label
returns-then-is_label-clause-label c =
    list_any_at (is_label c.args.label.now) c.args.columns.now c.loop-i.i c.index-columns-i.result c.loop-i-test.true
    (ap (λ (column : Column). is_label c.args.label.now column) (sym c.index-columns-i.is) ∙ c.is_label.ensures
    c.if-is_label.true)
