use Rattle.std.proofs.Common.{◌≡◌, take}
use Rattle.ingest_row.specs.Prepared.{names_of}
use Rattle.ingest_row.proofs.prepared.names_of.Given as goal

abbrev pub invariant-loop-field : goal.invariant-loop-field
invariant-loop-field l = l.names.items ≡ names_of (take l.field-index l.fields)
