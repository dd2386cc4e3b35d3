-- The collected header fields, and the list that they represent.
use Rattle.std.specs.Prelude.{◌≡◌, ℕ, List, option_map}
use Rattle.std.specs.List.{list_any}
use Rattle.http1.specs.Fields.{Header, known_fields}
use Rattle.http_said.specs.Fields.{agree, begins_form, coding_of, transfer_codings, content_encodings}
use Rattle.http_said.specs.Fields.{first_of, is_encoded, is_large, content_lengths, content_types}
use Rattle.http_said.specs.declared.framing.Lengths.{Lengths}
use Rattle.http_said.specs.declared.fields.HeadFields.{HeadFields}

-- The collected lengths are those of these values of Content-Length.
pub record HoldsLengths (lengths : Lengths) (values : List (List ℕ)) : Type 0 where
  pub first : option_map (λ value. value.now) lengths.first ≡ first_of values
  pub agreed : lengths.agree ≡ agree values
  pub large : lengths.large ≡ list_any is_large values

-- The collected fields are those of this list.
pub record HoldsFields (collected : HeadFields) (fields : List Header) : Type 0 where
  pub lengths : HoldsLengths collected.lengths (content_lengths fields)
  pub coding : collected.coding ≡ coding_of (transfer_codings fields)
  pub encoded : collected.encoded ≡ is_encoded (content_encodings fields)
  pub form : collected.form ≡ option_map begins_form (first_of (content_types fields))
  pub known : collected.known ≡ known_fields fields
