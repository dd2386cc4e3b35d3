use Rattle.std.proofs.Common.{FitsSigned, w64}
use Rattle.std.proofs.lemmas.Int.{to_z-of_z}
use Rattle.ingest_row.proofs.Listing.{labelled}
use Rattle.ingest_row.proofs.line.row_at.Goals as goal

pub returns-in-Ok-clause-row : goal.returns-in-Ok-clause-row
returns-in-Ok-clause-row c =
    let fits : FitsSigned w64 c.args.time = c.ranges.time in
    labelled c.labels.result.now c.args.o.now.stream_fields c.args.time c.args.fields c.in-Ok.row
    (simp to_z-of_z at c.in-Ok.ensures.ok.1) c.labels.ensures
