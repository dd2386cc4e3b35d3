-- Where the parts of a head are, and what it says.
use Rattle.std.specs.Prelude.{◌≡◌, ℕ, ◌≤◌, ◌<◌, List, length, drop, Ok, ⊤}
use Rattle.httparse.specs.Grammar.{NeverHasRequest, RequestHead, ReadsRequest, print_request}
use Rattle.httparse.specs.Spans.{IsWithin, RequestExceeds, span_bytes}
use Rattle.http_in.specs.Faults.{HasBadHead, HasLargeHead, HasUnframed, IsInHead}
use Rattle.http_said.specs.Fields.{IsWithinLimit, asks_to_close, framing_of, is_form}
use Rattle.http_in.specs.Limits.{field_limit, head_limit}
use Rattle.http_in.specs.Message.{fields_of}
use Rattle.http_in.specs.declared.head.Head.{Head}
use Rattle.http_in.specs.declared.head.HeadFault.{HeadFault}
use Rattle.http_in.specs.declared.head.HeadFault.TheVariants as whys
use Rattle.http_said.specs.declared.framing.FieldFault.TheVariants as fields
use Rattle.http_in.specs.declared.fault.RequestFault.{RequestFault}
use Rattle.http_in.specs.declared.fault.RequestFault.TheVariants as faults

-- the bytes begin with a head whose parts are there
pub record IsHeadAt (bytes : List ℕ) (at : Head) : Type 0 where
  pub head : RequestHead
  pub reads : ReadsRequest bytes head (drop at.len bytes)
  pub len : at.len ≡ length (print_request head)
  pub fits : at.len ≤ length bytes
  pub limit : at.len ≤ head_limit
  pub few : length head.fields ≤ field_limit
  pub method_within : IsWithin at.len at.method
  pub target_within : IsWithin at.len at.target
  pub method : span_bytes bytes at.method ≡ head.method
  pub target : span_bytes bytes at.target ≡ head.target
  pub framed : framing_of (fields_of head) ≡ Ok at.framing
  pub within : IsWithinLimit at.framing
  pub form : at.form ≡ is_form (fields_of head)
  pub last : at.last ≡ asks_to_close head.minor (fields_of head)

-- what a parser that answers so says of the bytes
abbrev pub ParsesNot : List ℕ → HeadFault → Type 0
ParsesNot bytes whys.Form = NeverHasRequest bytes
ParsesNot bytes whys.Lines = RequestExceeds field_limit bytes
ParsesNot bytes (whys.Fields fault) = HasUnframed bytes fault

-- the bytes of a head, which begin at this place, are at fault
abbrev pub HasHeadFault : ℕ → List ℕ → RequestFault → Type 0
HasHeadFault place bytes faults.SourceFault = ⊥
HasHeadFault place bytes (faults.BadHead at) = (at ≡ place) × HasBadHead bytes
HasHeadFault place bytes (faults.Cut at) = ⊥
HasHeadFault place bytes faults.HeadLarge = HasLargeHead bytes
HasHeadFault place bytes faults.BodyLarge = HasUnframed bytes fields.BodyLarge
HasHeadFault place bytes faults.BadLength = HasUnframed bytes fields.BadLength
HasHeadFault place bytes (faults.BadChunk at) = ⊥
HasHeadFault place bytes faults.Coding = HasUnframed bytes fields.Coding
HasHeadFault place bytes faults.Memory = ⊥

-- why the head is missing, where `ended` says that no more bytes come
abbrev pub ExplainsHead : ℕ → List ℕ → Type 0 → RequestFault → Type 0
ExplainsHead place bytes ended faults.SourceFault = IsInHead bytes
ExplainsHead place bytes ended (faults.BadHead at) = (at ≡ place) × HasBadHead bytes
ExplainsHead place bytes ended (faults.Cut at) = (at ≡ place) × (0 < length bytes) × IsInHead bytes × ended
ExplainsHead place bytes ended faults.HeadLarge = HasLargeHead bytes
ExplainsHead place bytes ended faults.BodyLarge = HasUnframed bytes fields.BodyLarge
ExplainsHead place bytes ended faults.BadLength = HasUnframed bytes fields.BadLength
ExplainsHead place bytes ended (faults.BadChunk at) = ⊥
ExplainsHead place bytes ended faults.Coding = HasUnframed bytes fields.Coding
ExplainsHead place bytes ended faults.Memory = ⊤
