-- Names that are looked up in one list, where they stand in another.
use Rattle.std.proofs.Common.{◌≡◌, ℕ, ℤ, List, ap, ◌∙◌}
use Rattle.std.specs.Prelude.{unsigned_abs}
use Rattle.std.proofs.lemmas.List.Elements.{filter_agree}
use Rattle.log_model.specs.Field.{Field}
use Rattle.log_model.specs.Row.{Row}
use Rattle.vl_row.specs.Faults.{labels_of, stored}
use Rattle.vl_row.specs.Names.{is_among}
use Rattle.ingest_row.specs.Ingest.{row_at}

pub labelled : (listed names : List (List ℕ)) (time : ℤ) (fields : List Field) (row : Row)
    → row ≡ record { moment = unsigned_abs time; labels = labels_of listed fields; fields = stored fields }
    → ((name : List ℕ) → is_among listed name ≡ is_among names name) → row ≡ row_at names time fields
labelled listed names time fields row is same =
    let labels : labels_of listed fields ≡ labels_of names fields =
    filter_agree (λ (field : Field). is_among listed field.0) (λ (field : Field). is_among names field.0)
    (λ field. same field.0) (stored fields) in
    is ∙ ap (λ (l : List Field). record { moment = unsigned_abs time; labels = l; fields = stored fields }) labels
