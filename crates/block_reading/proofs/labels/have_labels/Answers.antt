use Rattle.std.proofs.Common.{◌≡◌, ◌∙◌, ap, get_or, sym, take, true}
use Rattle.std.specs.List.{list_all}
use Rattle.std.proofs.lemmas.List.Folds.{list_all_more}
use Rattle.block_format.proofs.TestLaws.{both_from}
use Rattle.log_model.specs.Field.{Field}
use Rattle.block_reading.specs.ByColumns.{has_label}
use Rattle.block_reading.proofs.labels.have_labels.Goals as goal

pub loop-label-preserved : goal.loop-label-preserved
loop-label-preserved c =
    let one : has_label c.args.columns.now (get_or c.args.labels.now c.loop-label.label-index c.label-item.result) ≡ true =
    ap (λ (f : Field). has_label c.args.columns.now f) (sym c.label-item.is) ∙ c.in-Some.ensures.label in
    list_all_more (has_label c.args.columns.now) c.args.labels.now c.loop-label.label-index c.label-item.result
    c.loop-label-test.true
    ∙ both_from (list_all (has_label c.args.columns.now) (take c.loop-label.label-index c.args.labels.now)) (has_label
    c.args.columns.now (get_or c.args.labels.now c.loop-label.label-index c.label-item.result)) c.loop-label.invariant one
