-- A request at the front of bytes (RFC 9112, section 2.1), said of whole byte lists, and not of how they are read.
use Rattle.std.specs.Prelude.{◌≡◌, ℕ, ◌≤◌, Bool, List, ◌++◌, length, map, Ok}
use Rattle.httparse.specs.Grammar.{RequestHead, ReadsRequest, print_request}
use Rattle.httparse.specs.Spans.{name_and_value}
use Rattle.http1.specs.Fields.{Header}
use Rattle.http_said.specs.Arguments.{arguments_of, path_of}
use Rattle.http_in.specs.Chunks.{IsWholeBody}
use Rattle.http_said.specs.Fields.{asks_to_close, framing_of, is_form}
use Rattle.http_said.specs.Limits.{body_limit}
use Rattle.http_in.specs.Limits.{field_limit, head_limit}
use Rattle.http_said.specs.declared.framing.Framing.{Framing}

-- a request, as what serves it sees it
pub record Asked : Type 0 where
  pub method : List ℕ
  pub path : List ℕ
  -- names and values, in order
  pub args : List (List ℕ × List ℕ)
  pub body : List ℕ
  -- whether it asks that the connection ends
  pub last : Bool

-- the names and values of a head, without the white space around the values
abbrev pub fields_of : RequestHead → List Header
fields_of head = map name_and_value head.fields

-- the bytes begin with a head within its limits (RFC 9112, sections 2 to 5)
pub record BeginsHead (bytes : List ℕ) (head : RequestHead) (after : List ℕ) : Type 0 where
  pub reads : ReadsRequest bytes head after
  pub short : length (print_request head) ≤ head_limit
  pub few : length head.fields ≤ field_limit

-- what the head and the body ask for
pub record Asks (head : RequestHead) (asked : Asked) : Type 0 where
  pub method : asked.method ≡ head.method
  pub path : asked.path ≡ path_of head.target
  pub args : asked.args ≡ arguments_of head.method head.target (is_form (fields_of head)) asked.body
  pub last : asked.last ≡ asks_to_close head.minor (fields_of head)

-- The bytes begin with this request, and the rest follows it.
pub record Begins (bytes : List ℕ) (asked : Asked) (rest : List ℕ) : Type 0 where
  pub head : RequestHead
  pub after : List ℕ
  pub framing : Framing
  pub raw : List ℕ
  pub begins : BeginsHead bytes head after
  pub framed : framing_of (fields_of head) ≡ Ok framing
  pub body : IsWholeBody framing raw asked.body
  pub short : length asked.body ≤ body_limit
  pub follows : after ≡ raw ++ rest
  pub asks : Asks head asked
