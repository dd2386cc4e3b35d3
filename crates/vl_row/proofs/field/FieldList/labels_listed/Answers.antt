use Rattle.std.proofs.Common.{◌≡◌, arith}
use Rattle.std.proofs.lemmas.Grind.{common_steps}
use Rattle.vl_row.specs.Faults.{labels_of}
use Rattle.vl_row.proofs.Labels.{IsFieldList-labels, labels_more}
use Rattle.vl_row.proofs.field.FieldList.labels_listed.Goals as goal
use Rattle.vl_row.proofs.field.FieldList.labels_listed.Goals.{then-is_label_of+in_ok-try_copy+in_ok-push, else-is_label_of}

pub loop-field-preserved : goal.loop-field-preserved
loop-field-preserved c =
    let more = labels_more c.args.names.now c.deref-field-items.result.now c.loop-field.field-index c.field-item.result c.loop-field-test.true c.field-item.is in
    elim c.if-is_label_of.branch [
      | then-is_label_of+in_ok-try_copy+in_ok-push w ↦ grind (arith, common_steps)
      | else-is_label_of w ↦ grind (arith, common_steps)
    ]

pub invariant_of-result : goal.invariant_of-result
invariant_of-result c =
    let whole : c.loop-field.labels.items ≡ labels_of c.args.names.now c.self.inside.fields.items = grind (arith, common_steps) in
    rw whole (IsFieldList-labels c.args.names.now c.self.inside.fields.items c.self.invariant)
