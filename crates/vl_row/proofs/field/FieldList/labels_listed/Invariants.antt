use Rattle.std.proofs.Common.{◌≡◌, take}
use Rattle.vl_row.specs.Faults.{labels_of}
use Rattle.vl_row.proofs.field.FieldList.labels_listed.Given as goal

abbrev pub invariant-loop-field : goal.invariant-loop-field
invariant-loop-field l = l.labels.items ≡ labels_of l.names (take l.field-index l.field-items)
