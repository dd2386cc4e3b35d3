use Rattle.std.proofs.Common.{◌≡◌, drop, IsTrue}
use Rattle.std.specs.List.{list_all}
use Rattle.log_model.specs.Field.{is_filled, set_all}
use Rattle.ingest_row.proofs.complete.set_each.Given as goal

abbrev pub invariant-loop-field : goal.invariant-loop-field
invariant-loop-field l =
    (set_all l.fields (drop l.field-index l.added) ≡ set_all l.fn.fields l.added)
    × IsTrue (list_all is_filled (drop l.field-index l.added))
