-- What is wrong with the bytes of a request, however they go on, and what is not whole yet.
use Rattle.std.specs.Prelude.{◌≡◌, ◌≢◌, ◌⊎◌, ℕ, ◌+◌, ◌<◌, ◌≤◌, List, [], ◌∷◌, ◌++◌, length, take, Ok, Err}
use Rattle.httparse.specs.Ascii.{carriage_return, crlf_bytes}
use Rattle.httparse.specs.Grammar.{ChunkLine, RequestHead, HasNoChunkLine, HasNoRequest, HasNoSection}
use Rattle.httparse.specs.Grammar.{MayBecomeChunkLine, MayBecomeRequest, MayBecomeSection, NeverHasChunkLine}
use Rattle.httparse.specs.Grammar.{NeverHasRequest, NeverHasSection, chunk_size, print_chunk_line, print_request}
use Rattle.http_in.specs.Chunks.{HasRoom, IsLine, Leads}
use Rattle.http_said.specs.Fields.{framing_of}
use Rattle.http_said.specs.Limits.{body_limit}
use Rattle.http_in.specs.Limits.{field_limit, head_limit, place}
use Rattle.http_in.specs.Lines.{GoesOver, lines_in}
use Rattle.http_in.specs.Message.{BeginsHead, fields_of}
use Rattle.http_said.specs.declared.framing.FieldFault.{FieldFault}
use Rattle.http_said.specs.declared.framing.FieldFault.TheVariants as fields
use Rattle.http_in.specs.declared.fault.RequestFault.{RequestFault}
use Rattle.http_in.specs.declared.fault.RequestFault.TheVariants as faults
use Rattle.http_said.specs.declared.framing.Framing.{Framing}
use Rattle.http_in.specs.declared.stage.Stage.{Stage}
use Rattle.http_in.specs.declared.stage.Stage.TheVariants as stages

-- ---- heads

-- A front of the bytes is not a head and never becomes one. It has at most as many bytes as a head may have, and at
-- most as many lines, with the start line: each line feed ends one.
pub record HasBadHead (bytes : List ℕ) : Type 0 where
  pub front : List ℕ
  pub later : List ℕ
  pub whole : bytes ≡ front ++ later
  pub short : length front ≤ head_limit
  pub few : lines_in front ≤ field_limit + 1
  pub never : NeverHasRequest front

-- No head yet, and nothing against one. Inside a target there may be: its test for UTF-8 waits for its end.
pub record IsHeadFront (bytes : List ℕ) : Type 0 where
  pub none : HasNoRequest bytes
  pub may : MayBecomeRequest bytes
  pub few : lines_in bytes ≤ field_limit + 1

-- nothing is against a front of the bytes, and after it ends a header line too many
pub record HasHeadLine (bytes : List ℕ) : Type 0 where
  pub front : List ℕ
  pub is_front : IsHeadFront front
  pub over : GoesOver bytes front (field_limit + 1)

-- the head has no end within its limit, or a line too many
abbrev pub HasLargeHead : List ℕ → Type 0
HasLargeHead bytes =
    ((head_limit ≤ length bytes) × IsHeadFront (take head_limit bytes)) ⊎ HasHeadLine (take head_limit bytes)

-- the bytes begin with a head whose fields are at fault
pub record HasUnframed (bytes : List ℕ) (fault : FieldFault) : Type 0 where
  pub head : RequestHead
  pub after : List ℕ
  pub begins : BeginsHead bytes head after
  pub unframed : framing_of (fields_of head) ≡ Err fault

-- ---- bodies

-- a front of the bytes, within the limit, is not a chunk line and never becomes one; or that many bytes have none
abbrev pub HasBadLine : List ℕ → Type 0
HasBadLine bytes =
    ((front : List ℕ) × (later : List ℕ) × (bytes ≡ front ++ later) × (length front ≤ head_limit)
    × NeverHasChunkLine front)
    ⊎ ((head_limit ≤ length bytes) × HasNoChunkLine (take head_limit bytes))

-- a chunk line gives a size for which the body has no room
pub record IsTooMuch (body rest : List ℕ) : Type 0 where
  pub line : ChunkLine
  pub behind : List ℕ
  pub is_line : IsLine line
  pub whole : rest ≡ print_chunk_line line ++ behind
  pub over : body_limit < length body + chunk_size line

-- these bytes are no CR LF, however they go on
abbrev pub IsNoEnd : List ℕ → Type 0
IsNoEnd [] = ⊥
IsNoEnd (b ∷ []) = b ≢ carriage_return
IsNoEnd (b ∷ c ∷ bytes) = b ∷ c ∷ [] ≢ crlf_bytes

-- a front of the bytes, with no more bytes and lines than a trailer section may have, is none and never becomes one
pub record HasBadSection (bytes : List ℕ) : Type 0 where
  pub front : List ℕ
  pub later : List ℕ
  pub whole : bytes ≡ front ++ later
  pub short : length front ≤ head_limit
  pub few : lines_in front ≤ field_limit
  pub never : NeverHasSection front

-- no trailer section yet, and nothing against one
pub record IsSectionFront (bytes : List ℕ) : Type 0 where
  pub none : HasNoSection bytes
  pub may : MayBecomeSection bytes
  pub few : lines_in bytes ≤ field_limit

-- nothing is against a front of the bytes, and after it ends a line too many
pub record HasSectionLine (bytes : List ℕ) : Type 0 where
  pub front : List ℕ
  pub is_front : IsSectionFront front
  pub over : GoesOver bytes front field_limit

-- the trailer section has no end within its limit, or a line too many
abbrev pub HasLargeSection : List ℕ → Type 0
HasLargeSection bytes =
    ((head_limit ≤ length bytes) × IsSectionFront (take head_limit bytes)) ⊎ HasSectionLine (take head_limit bytes)

-- what is wrong at this place of the connection, where a body has come so far
abbrev pub Hits : ℕ → Stage → List ℕ → List ℕ → RequestFault → Type 0
Hits at (stages.Rest left) body rest fault = ⊥
Hits at stages.Line body rest fault =
    ((fault ≡ faults.BadChunk at) × HasBadLine rest) ⊎ ((fault ≡ faults.BodyLarge) × IsTooMuch body rest)
Hits at (stages.Data left) body rest fault = ⊥
Hits at stages.End body rest fault = (fault ≡ faults.BadChunk at) × IsNoEnd rest
Hits at stages.Trailer body rest fault =
    ((fault ≡ faults.BadChunk at) × HasBadSection rest) ⊎ ((fault ≡ faults.HeadLarge) × HasLargeSection rest)
Hits at stages.Done body rest fault = ⊥

-- a chunk line that is not whole yet
abbrev pub IsInLine : List ℕ → Type 0
IsInLine bytes = (length bytes < head_limit) × HasNoChunkLine bytes × MayBecomeChunkLine bytes

-- a trailer section that is not whole yet
abbrev pub IsInSection : List ℕ → Type 0
IsInSection bytes = (length bytes < head_limit) × IsSectionFront bytes

-- a line end that is not whole yet
abbrev pub IsInEnd : List ℕ → Type 0
IsInEnd bytes = (bytes ≡ []) ⊎ (bytes ≡ carriage_return ∷ [])

-- what comes next is not whole yet, and may become so
abbrev pub Waits : Stage → List ℕ → Type 0
Waits (stages.Rest left) rest = (0 < left) × (rest ≡ [])
Waits stages.Line rest = IsInLine rest
Waits (stages.Data left) rest = (0 < left) × (rest ≡ [])
Waits stages.End rest = IsInEnd rest
Waits stages.Trailer rest = IsInSection rest
Waits stages.Done rest = ⊥

-- After a head whose fields are in order a part of the body came.
pub record HasCome (bytes : List ℕ) : Type 0 where
  pub head : RequestHead
  pub after : List ℕ
  pub begins : BeginsHead bytes head after
  pub framing : Framing
  pub framed : framing_of (fields_of head) ≡ Ok framing
  pub raw : List ℕ
  pub stage : Stage
  pub body : List ℕ
  pub rest : List ℕ
  pub leads : Leads framing raw stage body
  pub room : HasRoom stage body
  pub follows : after ≡ raw ++ rest

-- where its rest begins, in a request that begins there
abbrev pub place_behind : {bytes : List ℕ} → ℕ → HasCome bytes → ℕ
place_behind start come = place (start + length (print_request come.head) + length come.raw)

-- the first fault of a body, from the left
pub record HasBodyFault (start : ℕ) (bytes : List ℕ) (fault : RequestFault) : Type 0 where
  pub come : HasCome bytes
  pub hits : Hits (place_behind start come) come.stage come.body come.rest fault

-- ---- requests

-- The bytes, which begin at this place of the connection, begin with no request, however they go on, and this is why.
abbrev pub HasFault : ℕ → List ℕ → RequestFault → Type 0
HasFault start bytes faults.SourceFault = ⊥
HasFault start bytes (faults.BadHead at) = (at ≡ place start) × HasBadHead bytes
HasFault start bytes (faults.Cut at) = ⊥
HasFault start bytes faults.HeadLarge = HasLargeHead bytes ⊎ HasBodyFault start bytes faults.HeadLarge
HasFault start bytes faults.BodyLarge = HasUnframed bytes fields.BodyLarge ⊎ HasBodyFault start bytes faults.BodyLarge
HasFault start bytes faults.BadLength = HasUnframed bytes fields.BadLength
HasFault start bytes (faults.BadChunk at) = HasBodyFault start bytes (faults.BadChunk at)
HasFault start bytes faults.Coding = HasUnframed bytes fields.Coding
HasFault start bytes faults.Memory = ⊥

-- a head that is not whole yet
abbrev pub IsInHead : List ℕ → Type 0
IsInHead bytes = (length bytes < head_limit) × IsHeadFront bytes

-- a body that is not whole yet
pub record IsInBody (bytes : List ℕ) : Type 0 where
  pub come : HasCome bytes
  pub waits : Waits come.stage come.rest

-- The bytes are not a whole request yet, and may still become one.
abbrev pub IsInside : List ℕ → Type 0
IsInside bytes = IsInHead bytes ⊎ IsInBody bytes
