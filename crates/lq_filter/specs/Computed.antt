-- Where the value of a field of a row comes from.
use Rattle.std.specs.Prelude.{ℕ, Bool, not, List, bytes_eq, codes, Option, Some, None}
use Rattle.log_model.specs.Field.{is_reserved}
use Rattle.log_model.specs.Moment.{moment_text}
use Rattle.log_model.specs.Row.{Row}
use Rattle.log_model.specs.Stream.{label_text, stream_id}
use Rattle.lq_filter.specs.declared.computed.Computed.{Computed}
use Rattle.lq_filter.specs.declared.computed.Computed.TheVariants.{Time, Stream, StreamId}

-- The field of this name is computed so, or it is stored.
abbrev pub is_source : Option Computed → List ℕ → Bool
is_source (Some Time) name = bytes_eq name (codes "_time")
is_source (Some Stream) name = bytes_eq name (codes "_stream")
is_source (Some StreamId) name = bytes_eq name (codes "_stream_id")
is_source None name = not (is_reserved name)

abbrev pub computed_text : Computed → Row → List ℕ
computed_text Time row = moment_text row.moment
computed_text Stream row = label_text row.labels
computed_text StreamId row = stream_id row.labels
