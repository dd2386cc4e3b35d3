use Rattle.std.proofs.Common.{◌≡◌, drop}
use Rattle.ingest_row.specs.Ingest.{with_message}
use Rattle.ingest_row.proofs.complete.move_first.Given as goal

abbrev pub invariant-loop-name : goal.invariant-loop-name
invariant-loop-name l =
    (l.fields ≡ l.fn.fields) × (with_message (drop l.name-index l.names) l.fields ≡ with_message l.names l.fn.fields)
