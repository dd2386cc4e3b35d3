-- The fields of a row that are computed, and not stored.
use Rattle.std.specs.Prelude.{ℕ, List, Option, Some, None, bytes_eq, codes, if◌then◌else◌}
use Rattle.lq_ast.specs.declared.computed.Computed.{Computed}
use Rattle.lq_ast.specs.declared.computed.Computed.TheVariants.{Time, Stream, StreamId}

abbrev pub computed_name : Computed → List ℕ
computed_name Time = codes "_time"
computed_name Stream = codes "_stream"
computed_name StreamId = codes "_stream_id"

-- the computed field of this name
abbrev pub computed_of : List ℕ → Option Computed
computed_of name =
    if bytes_eq name (codes "_time") then Some Time
    else (if bytes_eq name (codes "_stream") then Some Stream
    else (if bytes_eq name (codes "_stream_id") then Some StreamId else None))
