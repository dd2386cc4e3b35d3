use Rattle.std.proofs.Common.{◌≡◌, [], drop, IsTrue}
use Rattle.std.specs.List.{list_all}
use Rattle.log_model.specs.Field.{set_all}
use Rattle.ingest_row.specs.Ingest.{is_named}
use Rattle.ingest_row.proofs.prepared.folded.Given as goal

abbrev pub invariant-loop-field : goal.invariant-loop-field
invariant-loop-field l =
    (set_all l.setter (drop l.field-index l.fields) ≡ set_all [] l.fields)
    × IsTrue (list_all is_named (drop l.field-index l.fields))
