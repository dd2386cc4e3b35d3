use Rattle.std.proofs.Common.{drop}
use Rattle.log_model.specs.Field.{set_all}
use Rattle.ingest_row.proofs.Merging.{Merging}
use Rattle.ingest_row.proofs.merge.merged.Given as goal

abbrev pub invariant-loop-field : goal.invariant-loop-field
invariant-loop-field l =
    Merging l.all l.left.items (drop l.field-index l.field-items) (set_all l.fn.fields l.added)
