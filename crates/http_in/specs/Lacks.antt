-- Where there is too little, so that a reader asks its source for more.
use Rattle.std.specs.Prelude.{◌≡◌, ◌⊎◌, ℕ, ◌<◌, ◌≤◌, false, true, List, [], ◌++◌, Option, get_or, length, take}
use Rattle.vl_io.specs.Bytes.{Consumes}
use Rattle.httparse.specs.Ascii.{line_feed}
use Rattle.httparse.specs.Grammar.{ChunkLine, Field, LineEnd, RequestHead, print_chunk_line, print_section}
use Rattle.http_in.specs.Chunks.{IsLine, IsTrailer}
use Rattle.http_in.specs.Lines.{begun_after, lines_in}
use Rattle.http_in.specs.Message.{BeginsHead}
use Rattle.http_in.specs.Progress.{Moves, Progress}
use Rattle.http_in.specs.declared.search.Search.{Search}
use Rattle.http_in.specs.declared.stage.Stage.{Stage}
use Rattle.http_in.specs.declared.stage.Stage.TheVariants as stages

-- Nothing was asked of the source, and nothing came, unless there was too little.
abbrev pub AsksIf : {S : Type 0} → Type 0 → S → S → List ℕ → Type 0
AsksIf short old new piece = ((new ≡ old) × (piece ≡ [])) ⊎ short

-- The window grew by what was taken of the source, which was asked only where there was too little.
abbrev pub AddsIf : {S : Type 0} → (S → Option (List ℕ)) → Type 0 → S → S → List ℕ → List ℕ → Type 0
AddsIf left short old new before now =
    (piece : List ℕ) × Consumes (left old) (left new) piece × (now ≡ before ++ piece) × AsksIf short old new piece

-- A step through the body, with what was taken of the source, which was asked only where there was too little.
abbrev pub MovesIf : {S : Type 0} → (S → Option (List ℕ)) → Type 0 → S → S → Progress → Progress → Type 0
MovesIf left short before now old new =
    (piece : List ℕ) × Consumes (left before) (left now) piece × Moves old new piece × AsksIf short before now piece

-- the bytes begin with no head within its limits
abbrev pub LacksHead : List ℕ → Type 0
LacksHead bytes = (head : RequestHead) (after : List ℕ) → BeginsHead bytes head after → ⊥

-- the bytes begin with no chunk line within its limit
abbrev pub LacksLine : List ℕ → Type 0
LacksLine bytes = (line : ChunkLine) (after : List ℕ) → IsLine line → bytes ≡ print_chunk_line line ++ after → ⊥

-- the bytes begin with no trailer section within its limits
abbrev pub LacksSection : List ℕ → Type 0
LacksSection bytes =
    (fields : List Field) (last : LineEnd) (after : List ℕ) → IsTrailer fields last
    → bytes ≡ print_section fields last ++ after → ⊥

-- what a reader waits for, piece by piece
pub data Awaited : Type 0 where
  a_head : Awaited
  a_line : Awaited
  a_line_end : Awaited
  a_section : Awaited

-- the bytes do not begin with what is awaited
abbrev pub LacksAwaited : Awaited → List ℕ → Type 0
LacksAwaited a_head bytes = LacksHead bytes
LacksAwaited a_line bytes = LacksLine bytes
LacksAwaited a_line_end bytes = length bytes < 2
LacksAwaited a_section bytes = LacksSection bytes

-- what comes next of a body is not whole
abbrev pub Lacks : Stage → List ℕ → Type 0
Lacks (stages.Rest left) rest = length rest < left
Lacks stages.Line rest = LacksLine rest
Lacks (stages.Data left) rest = length rest < left
Lacks stages.End rest = length rest < 2
Lacks stages.Trailer rest = LacksSection rest
Lacks stages.Done rest = ⊥

-- the bytes that are there lead through the body to a piece that is not whole
pub record LacksBody (p : Progress) : Type 0 where
  pub at : Progress
  pub moves : Moves p at []
  pub lacks : Lacks at.stage at.ahead

-- ---- where a head may end

-- At this place a line feed ends an empty line, and a line that is not empty ended before.
pub record EndsHead (bytes : List ℕ) (at : ℕ) : Type 0 where
  pub inside : at < length bytes
  pub feed : get_or bytes at 0 ≡ line_feed
  pub empty : begun_after false (take at bytes) ≡ false
  pub lines : 0 < lines_in (take at bytes)

-- This many of the bytes were searched, and this is so after them.
pub record IsPlace (search : Search) (bytes : List ℕ) : Type 0 where
  pub fits : search.searched ≤ length bytes
  pub begun : search.begun ≡ begun_after false (take search.searched bytes)
  pub ended : 0 < lines_in (take search.searched bytes) → search.ended ≡ true
