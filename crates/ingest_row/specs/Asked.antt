-- What the arguments of a request ask for (VictoriaLogs, "Data ingestion": HTTP parameters).
use Rattle.std.specs.Prelude.{ℕ, not, ◌&&◌, ◌==◌, List, [], filter, Option, Some, None, is_some, option_map, unwrap_or}
use Rattle.std.specs.Prelude.{bytes_eq, codes, if◌then◌else◌}
use Rattle.std.specs.Map.{lookup}
use Rattle.std.specs.List.{list_all, list_any, filter_map, slice_split, before_first, after_first}
use Rattle.log_model.specs.Field.{Field, is_empty}
use Rattle.ingest_row.specs.Ingest.{Options, is_named}
use Rattle.ingest_row.specs.declared.fault.OptionFault.{OptionFault}
use Rattle.ingest_row.specs.declared.fault.OptionFault.TheVariants.{BadExtra, Memory}

-- what stands between commas (44) and is not empty
unfoldable pub pieces : List ℕ → List (List ℕ)
pieces list = filter (λ piece. not (is_empty piece)) (slice_split (λ byte. byte == 44) list)

-- the first `=` (61) ends the name, and the value is all that stands after it
abbrev pub pair_of : List ℕ → Field
pair_of piece = (before_first (λ byte. byte == 61) piece, after_first (λ byte. byte == 61) piece)

-- a piece is a field if it has an `=` and a name
unfoldable pub extra_of : List ℕ → Option Field
extra_of piece =
    if list_any (λ byte. byte == 61) piece && is_named (pair_of piece) then Some (pair_of piece) else None

-- the fields that these pieces are, if each is one
unfoldable pub extras_of : List (List ℕ) → Option (List Field)
extras_of pieces =
    if list_all (λ piece. is_some (extra_of piece)) pieces then Some (filter_map extra_of pieces) else None

-- the first argument of this name, if there is one
abbrev pub argument : List Field → List ℕ → Option (List ℕ)
argument pairs name = lookup (bytes_eq name) pairs

-- the list that the first argument of this name says, empty where there is none
abbrev pub list_argument : List Field → List ℕ → List ℕ
list_argument pairs name = unwrap_or (argument pairs name) []

-- Of a repeated argument the first counts. The moment's field is `_time` where no name is given. An empty name is one
-- that no line has.
abbrev pub options_of : List Field → Option Options
options_of pairs = option_map (λ extra_fields. record {
  stream_fields = pieces (list_argument pairs (codes "_stream_fields"));
  time_field = unwrap_or (argument pairs (codes "_time_field")) (codes "_time");
  message_fields = pieces (list_argument pairs (codes "_msg_field"));
  ignored_fields = pieces (list_argument pairs (codes "ignore_fields"));
  extra_fields = extra_fields;
}) (extras_of (pieces (list_argument pairs (codes "extra_fields"))))

-- how the faults are named
abbrev pub fault_text : OptionFault → List ℕ
fault_text BadExtra = codes "BadExtra"
fault_text Memory = codes "no memory"
