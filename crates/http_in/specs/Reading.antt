-- What one call of a reader does with the bytes that it has and those that it takes.
use Rattle.std.specs.Prelude.{◌≡◌, ◌<◌, ◌≤◌, ◌+◌, length, ℕ, List, [], ◌++◌, Option, Some, None, Result, Ok, Err, ⊤}
use Rattle.httparse.specs.Spans.{span_bytes}
use Rattle.http_said.specs.Arguments.{arguments_of, path_of}
use Rattle.http_in.specs.Chunks.{HasRoom}
use Rattle.http_in.specs.Head.{IsHeadAt}
use Rattle.http_in.specs.Faults.{HasFault, IsInside}
use Rattle.http_said.specs.Limits.{body_limit}
use Rattle.http_in.specs.Limits.{place}
use Rattle.http_in.specs.Message.{Asked, Begins}
use Rattle.http_in.specs.Progress.{LeadsTo, Progress, progress_of}
use Rattle.http_in.specs.declared.body.Body.{Body}
use Rattle.http_in.specs.declared.head.Head.{Head}
use Rattle.http_in.specs.declared.fault.RequestFault.{RequestFault}
use Rattle.http_in.specs.declared.fault.RequestFault.TheVariants as faults
use Rattle.http_said.specs.declared.framing.Framing.{Framing}
use Rattle.http_said.specs.declared.framing.Framing.TheVariants as framings
use Rattle.http_in.specs.declared.stage.Stage.{Stage}
use Rattle.http_in.specs.declared.stage.Stage.TheVariants as stages
use Rattle.http_in.specs.declared.request.Request.{Request}
use Rattle.http_in.specs.declared.turn.Begun.{Begun}

-- what a reader has of a request
pub record Held : Type 0 where
  -- where its body is being read, its head and the bytes of it
  pub head : Option Head
  pub bytes : List ℕ
  pub progress : Progress

-- what a reader has
pub record Reading : Type 0 where
  pub held : Held
  -- the fault that each further call answers
  pub fault : Option RequestFault

abbrev pub held_by : Begun → Body → List ℕ → Held
held_by begun body ahead = record { head = begun.head; bytes = begun.bytes.items; progress = progress_of body ahead }

-- the reader is between two requests
abbrev pub IsBetween : Held → Type 0
IsBetween held = held.head ≡ None

abbrev pub HoldsSo : ℕ → List ℕ → Option Head → List ℕ → Progress → Type 0
HoldsSo start bytes None kept p = bytes ≡ p.ahead
HoldsSo start bytes (Some at) kept p =
    (raw : List ℕ) × LeadsTo at.framing (start + at.len) raw p × (bytes ≡ kept ++ (raw ++ p.ahead))

-- These bytes, which begin at this place of the connection, were taken and are in no request yet.
pub record Holds (start : ℕ) (bytes : List ℕ) (held : Held) : Type 0 where
  pub start_is : held.progress.start ≡ place start
  pub so : HoldsSo start bytes held.head held.bytes held.progress

-- the bytes that are held begin with a whole request
pub record HoldsRequest (held : Held) : Type 0 where
  pub start : ℕ
  pub bytes : List ℕ
  pub rest : List ℕ
  pub asked : Asked
  pub holds : Holds start bytes held
  pub begins : Begins bytes asked rest

-- Where the bytes that are held begin with a whole request, nothing is asked of the source.
unfoldable pub ReadsNoFurther : {S : Type 0} → Held → S → S → Type 0
ReadsNoFurther held before now = HoldsRequest held → now ≡ before

abbrev pub asked_by : Request → Asked
asked_by request = record {
  method = request.method;
  path = request.path;
  args = request.args;
  body = request.body;
  last = request.last;
}

-- why the next request cannot be read in the bytes, where `ended` says that no more come
abbrev pub Explains : ℕ → List ℕ → Type 0 → RequestFault → Type 0
Explains start bytes ended faults.SourceFault = IsInside bytes
Explains start bytes ended (faults.BadHead at) = HasFault start bytes (faults.BadHead at)
Explains start bytes ended (faults.Cut at) = (at ≡ place start) × (0 < length bytes) × IsInside bytes × ended
Explains start bytes ended faults.HeadLarge = HasFault start bytes faults.HeadLarge
Explains start bytes ended faults.BodyLarge = HasFault start bytes faults.BodyLarge
Explains start bytes ended faults.BadLength = HasFault start bytes faults.BadLength
Explains start bytes ended (faults.BadChunk at) = HasFault start bytes (faults.BadChunk at)
Explains start bytes ended faults.Coding = HasFault start bytes faults.Coding
Explains start bytes ended faults.Memory = ⊤

-- the fault that each further call answers: faults of the outside do not last
abbrev pub lasting : RequestFault → Option RequestFault
lasting faults.SourceFault = None
lasting (faults.BadHead at) = Some (faults.BadHead at)
lasting (faults.Cut at) = Some (faults.Cut at)
lasting faults.HeadLarge = Some faults.HeadLarge
lasting faults.BodyLarge = Some faults.BodyLarge
lasting faults.BadLength = Some faults.BadLength
lasting (faults.BadChunk at) = Some (faults.BadChunk at)
lasting faults.Coding = Some faults.Coding
lasting faults.Memory = None

abbrev pub fault_after : Result (Option Request) RequestFault → Option RequestFault
fault_after (Ok found) = None
fault_after (Err fault) = lasting fault

-- The bytes begin with a request, and the reader stands after it.
pub record FindsRequest (start : ℕ) (bytes : List ℕ) (new : Held) (asked : Asked) : Type 0 where
  pub used : List ℕ
  pub rest : List ℕ
  pub whole : bytes ≡ used ++ rest
  pub begins : Begins bytes asked rest
  pub holds : Holds (start + length used) rest new
  pub between : IsBetween new

-- The bytes are over, and the reader stands there.
pub record FindsNone (start : ℕ) (bytes : List ℕ) (ended : Type 0) (new : Held) : Type 0 where
  pub none : bytes ≡ []
  pub over : ended
  pub holds : Holds start bytes new
  pub between : IsBetween new

-- There is no request for this reason. Where it does not last, the bytes are kept.
pub record FindsFault (start : ℕ) (bytes : List ℕ) (ended : Type 0) (new : Held) (fault : RequestFault) : Type 0 where
  pub explained : Explains start bytes ended fault
  pub keeps : lasting fault ≡ None → Holds start bytes new

-- The bytes begin with the next request, or are over, or there is a fault.
abbrev pub FindsAt : ℕ → List ℕ → Type 0 → Held → Result (Option Request) RequestFault → Type 0
FindsAt start bytes ended new (Ok (Some request)) = FindsRequest start bytes new (asked_by request)
FindsAt start bytes ended new (Ok None) = FindsNone start bytes ended new
FindsAt start bytes ended new (Err fault) = FindsFault start bytes ended new fault

-- with this a body begins
abbrev pub IsFirst : Framing → Stage → Type 0
IsFirst (framings.Sized length) stage = (stage ≡ stages.Rest length) × (length ≤ body_limit)
IsFirst framings.Chunked stage = stage ≡ stages.Line

-- the parts of a request are where this head says
pub record IsAskedAt (bytes : List ℕ) (at : Head) (asked : Asked) : Type 0 where
  pub method : asked.method ≡ span_bytes bytes at.method
  pub path : asked.path ≡ path_of (span_bytes bytes at.target)
  pub args : asked.args ≡ arguments_of (span_bytes bytes at.method) (span_bytes bytes at.target) at.form asked.body
  pub last : asked.last ≡ at.last

-- of a request whose body is being read the head is there, and the body has room; else there is no body
abbrev pub IsBegun : Option Head → List ℕ → Body → Type 0
IsBegun None kept body = (body.bytes.items ≡ []) × (body.place ≡ body.start)
IsBegun (Some at) kept body = IsHeadAt kept at × (length kept ≡ at.len) × HasRoom body.stage body.bytes.items
