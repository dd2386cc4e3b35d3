-- How far a reader is in a body.
use Rattle.std.specs.Prelude.{◌≡◌, ◌⊎◌, ℕ, ◌+◌, ◌≤◌, List, [], ◌++◌, drop, length, ⊤}
use Rattle.std.specs.Prelude.{◌==◌, if◌then◌else◌}
use Rattle.httparse.specs.Grammar.{ChunkLine, Field, LineEnd, chunk_size, print_chunk_line, print_section}
use Rattle.http_in.specs.Chunks.{IsLine, IsTrailer, Leads}
use Rattle.http_in.specs.Faults.{HasBadLine, HasBadSection, HasLargeSection, Hits, IsInEnd, IsInLine, IsInSection}
use Rattle.http_in.specs.Faults.{IsNoEnd, Waits}
use Rattle.http_in.specs.Limits.{place}
use Rattle.http_in.specs.declared.body.Body.{Body}
use Rattle.http_in.specs.declared.fault.RequestFault.{RequestFault}
use Rattle.http_in.specs.declared.fault.RequestFault.TheVariants as faults
use Rattle.http_in.specs.declared.line.Line.{Line}
use Rattle.http_said.specs.declared.framing.Framing.{Framing}
use Rattle.http_in.specs.declared.stage.Stage.{Stage}
use Rattle.http_in.specs.declared.stage.Stage.TheVariants as stages

pub record Progress : Type 0 where
  -- where the request begins
  pub start : ℕ
  -- where the bytes begin that are ahead
  pub place : ℕ
  pub stage : Stage
  pub body : List ℕ
  -- the bytes that were taken and not used up
  pub ahead : List ℕ

abbrev pub progress_of : Body → List ℕ → Progress
progress_of body ahead = record {
  start = body.start;
  place = body.place;
  stage = body.stage;
  body = body.bytes.items;
  ahead = ahead;
}

-- These bytes of a body, which begins at `base`, were used up on the way there.
abbrev pub LeadsTo : Framing → ℕ → List ℕ → Progress → Type 0
LeadsTo framing base raw p = Leads framing raw p.stage p.body × (p.place ≡ place (base + length raw))

-- this many bytes are left of the data that is being read
abbrev pub IsData : Stage → ℕ → Type 0
IsData stage left = (stage ≡ stages.Rest left) ⊎ (stage ≡ stages.Data left)

-- the stage in data of which this many bytes are left, where it was in that data before
abbrev pub stage_with : Stage → ℕ → Stage
stage_with (stages.Rest before) left = if left == 0 then stages.Done else stages.Rest left
stage_with stages.Line left = stages.Line
stage_with (stages.Data before) left = if left == 0 then stages.End else stages.Data left
stage_with stages.End left = stages.End
stage_with stages.Trailer left = stages.Trailer
stage_with stages.Done left = stages.Done

-- Whatever led to the one, it and then what was used up leads to the other.
pub record Moves (old new : Progress) (piece : List ℕ) : Type 0 where
  pub start : new.start ≡ old.start
  pub leads : (framing : Framing) (base : ℕ) (raw : List ℕ) → LeadsTo framing base raw old
      → (next : List ℕ) × LeadsTo framing base next new × (raw ++ (old.ahead ++ piece) ≡ next ++ new.ahead)

-- why a body is not whole, where `ended` says that no more bytes come
abbrev pub Stops : Progress → Type 0 → RequestFault → Type 0
Stops p ended faults.SourceFault = Waits p.stage p.ahead
Stops p ended (faults.BadHead at) = ⊥
Stops p ended (faults.Cut at) = (at ≡ p.start) × Waits p.stage p.ahead × ended
Stops p ended faults.HeadLarge = Hits p.place p.stage p.body p.ahead faults.HeadLarge
Stops p ended faults.BodyLarge = Hits p.place p.stage p.body p.ahead faults.BodyLarge
Stops p ended faults.BadLength = ⊥
Stops p ended (faults.BadChunk at) = Hits p.place p.stage p.body p.ahead (faults.BadChunk at)
Stops p ended faults.Coding = ⊥
Stops p ended faults.Memory = ⊤

-- ---- the pieces of a body

-- the bytes begin with a chunk line
pub record IsLineAt (bytes : List ℕ) (at : Line) : Type 0 where
  pub line : ChunkLine
  pub is_line : IsLine line
  pub whole : bytes ≡ print_chunk_line line ++ drop at.len bytes
  pub len : at.len ≡ length (print_chunk_line line)
  pub fits : at.len ≤ length bytes
  pub size : at.size ≡ chunk_size line

-- why the chunk line is missing
abbrev pub StopsAtLine : ℕ → ℕ → List ℕ → Type 0 → RequestFault → Type 0
StopsAtLine start place bytes ended faults.SourceFault = IsInLine bytes
StopsAtLine start place bytes ended (faults.BadHead at) = ⊥
StopsAtLine start place bytes ended (faults.Cut at) = (at ≡ start) × IsInLine bytes × ended
StopsAtLine start place bytes ended faults.HeadLarge = ⊥
StopsAtLine start place bytes ended faults.BodyLarge = ⊥
StopsAtLine start place bytes ended faults.BadLength = ⊥
StopsAtLine start place bytes ended (faults.BadChunk at) = (at ≡ place) × HasBadLine bytes
StopsAtLine start place bytes ended faults.Coding = ⊥
StopsAtLine start place bytes ended faults.Memory = ⊤

-- why the line end is missing
abbrev pub StopsAtEnd : ℕ → ℕ → List ℕ → Type 0 → RequestFault → Type 0
StopsAtEnd start place bytes ended faults.SourceFault = IsInEnd bytes
StopsAtEnd start place bytes ended (faults.BadHead at) = ⊥
StopsAtEnd start place bytes ended (faults.Cut at) = (at ≡ start) × IsInEnd bytes × ended
StopsAtEnd start place bytes ended faults.HeadLarge = ⊥
StopsAtEnd start place bytes ended faults.BodyLarge = ⊥
StopsAtEnd start place bytes ended faults.BadLength = ⊥
StopsAtEnd start place bytes ended (faults.BadChunk at) = (at ≡ place) × IsNoEnd bytes
StopsAtEnd start place bytes ended faults.Coding = ⊥
StopsAtEnd start place bytes ended faults.Memory = ⊤

-- the bytes begin with a trailer section of this length
pub record IsTrailerAt (bytes : List ℕ) (len : ℕ) : Type 0 where
  pub fields : List Field
  pub last : LineEnd
  pub section : IsTrailer fields last
  pub whole : bytes ≡ print_section fields last ++ drop len bytes
  pub len_is : len ≡ length (print_section fields last)
  pub fits : len ≤ length bytes

-- what is wrong with a trailer section that begins at this place
abbrev pub HasTrailerFault : ℕ → List ℕ → RequestFault → Type 0
HasTrailerFault place bytes fault =
    ((fault ≡ faults.BadChunk place) × HasBadSection bytes) ⊎ ((fault ≡ faults.HeadLarge) × HasLargeSection bytes)

-- why the trailer section is missing
abbrev pub StopsAtTrailer : ℕ → ℕ → List ℕ → Type 0 → RequestFault → Type 0
StopsAtTrailer start place bytes ended faults.SourceFault = IsInSection bytes
StopsAtTrailer start place bytes ended (faults.BadHead at) = ⊥
StopsAtTrailer start place bytes ended (faults.Cut at) = (at ≡ start) × IsInSection bytes × ended
StopsAtTrailer start place bytes ended faults.HeadLarge = HasLargeSection bytes
StopsAtTrailer start place bytes ended faults.BodyLarge = ⊥
StopsAtTrailer start place bytes ended faults.BadLength = ⊥
StopsAtTrailer start place bytes ended (faults.BadChunk at) = (at ≡ place) × HasBadSection bytes
StopsAtTrailer start place bytes ended faults.Coding = ⊥
StopsAtTrailer start place bytes ended faults.Memory = ⊤

-- bytes went over from what is ahead, and then from the piece, to the end of a list
pub record Takes (ahead_old bytes_old ahead_new bytes_new piece : List ℕ) : Type 0 where
  pub taken : List ℕ
  pub left : ahead_old ++ piece ≡ taken ++ ahead_new
  pub came : bytes_new ≡ bytes_old ++ taken

-- too little came, or memory ran out
abbrev pub IsShort : ℕ → List ℕ → Type 0 → RequestFault → Type 0
IsShort start ahead ended faults.SourceFault = ahead ≡ []
IsShort start ahead ended (faults.BadHead at) = ⊥
IsShort start ahead ended (faults.Cut at) = (at ≡ start) × (ahead ≡ []) × ended
IsShort start ahead ended faults.HeadLarge = ⊥
IsShort start ahead ended faults.BodyLarge = ⊥
IsShort start ahead ended faults.BadLength = ⊥
IsShort start ahead ended (faults.BadChunk at) = ⊥
IsShort start ahead ended faults.Coding = ⊥
IsShort start ahead ended faults.Memory = ⊤

-- faults of the outside
abbrev pub IsOutside : RequestFault → Type 0
IsOutside faults.SourceFault = ⊤
IsOutside (faults.BadHead at) = ⊥
IsOutside (faults.Cut at) = ⊥
IsOutside faults.HeadLarge = ⊥
IsOutside faults.BodyLarge = ⊥
IsOutside faults.BadLength = ⊥
IsOutside (faults.BadChunk at) = ⊥
IsOutside faults.Coding = ⊥
IsOutside faults.Memory = ⊤
