use Rattle.std.proofs.Common.{◌≡◌, drop, fold, min}
use Rattle.ingest_row.specs.Prepared.{least_place, place_in}
use Rattle.ingest_row.proofs.options.Options.message_place.Given as goal

abbrev pub invariant-loop-field : goal.invariant-loop-field
invariant-loop-field l =
    fold (λ least field. min least (place_in l.self.message_fields field.0)) l.least (drop l.field-index l.fields)
    ≡ least_place l.self.message_fields l.fields
