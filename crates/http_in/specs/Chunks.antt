-- A chunked body (RFC 9112, section 7.1), and the places within a body.
use Rattle.std.specs.Prelude.{◌≡◌, ℕ, ◌+◌, ◌<◌, ◌≤◌, All, List, ◌++◌, length, flat_map}
use Rattle.std.specs.List.{AllByRecursion}
use Rattle.httparse.specs.Ascii.{crlf_bytes}
use Rattle.httparse.specs.Grammar.{ChunkLine, Field, IsChunkLine, IsField, LineEnd, chunk_size, print_chunk_line}
use Rattle.httparse.specs.Grammar.{print_section}
use Rattle.http_said.specs.Limits.{body_limit}
use Rattle.http_in.specs.Limits.{field_limit, head_limit}
use Rattle.http_said.specs.declared.framing.Framing.{Framing}
use Rattle.http_said.specs.declared.framing.Framing.TheVariants as framings
use Rattle.http_in.specs.declared.stage.Stage.{Stage}
use Rattle.http_in.specs.declared.stage.Stage.TheVariants as stages

-- a chunk line within its limit
pub record IsLine (line : ChunkLine) : Type 0 where
  pub form : IsChunkLine line
  pub short : length (print_chunk_line line) ≤ head_limit

-- chunk = chunk-size [ chunk-ext ] CRLF chunk-data CRLF
pub record Chunk : Type 0 where
  pub line : ChunkLine
  pub bytes : List ℕ

abbrev pub print_chunk : Chunk → List ℕ
print_chunk chunk = print_chunk_line chunk.line ++ (chunk.bytes ++ crlf_bytes)

-- the line gives the length of the data, which is not empty
pub record IsChunk (chunk : Chunk) : Type 0 where
  pub line : IsLine chunk.line
  pub size : chunk_size chunk.line ≡ length chunk.bytes
  pub some : 0 < length chunk.bytes

-- these chunks, and the data of all of them
pub record AreChunks (raw body : List ℕ) (chunks : List Chunk) : Type 0 where
  pub each : AllByRecursion IsChunk chunks
  pub raw_is : raw ≡ flat_map print_chunk chunks
  pub body_is : body ≡ flat_map (λ chunk. chunk.bytes) chunks

-- Whole chunks, and then one more, of whose data the last `left` bytes are missing.
pub record IsInChunk (raw body : List ℕ) (left : ℕ) : Type 0 where
  pub before : List ℕ
  pub joined : List ℕ
  pub chunks : List Chunk
  pub line : ChunkLine
  pub bytes : List ℕ
  pub whole : AreChunks before joined chunks
  pub is_line : IsLine line
  pub size : chunk_size line ≡ length bytes + left
  pub some : 0 < length bytes + left
  pub raw_is : raw ≡ before ++ (print_chunk_line line ++ bytes)
  pub body_is : body ≡ joined ++ bytes

-- all chunks, and the line of the last one, whose size is 0
pub record AreAllChunks (raw body : List ℕ) : Type 0 where
  pub before : List ℕ
  pub chunks : List Chunk
  pub line : ChunkLine
  pub whole : AreChunks before body chunks
  pub is_line : IsLine line
  pub size : chunk_size line ≡ 0
  pub raw_is : raw ≡ before ++ print_chunk_line line

-- a trailer section within its limits (RFC 9112, section 7.1.2)
pub record IsTrailer (fields : List Field) (last : LineEnd) : Type 0 where
  pub each : All IsField fields
  pub short : length (print_section fields last) ≤ head_limit
  pub few : length fields ≤ field_limit

-- chunked-body = *chunk last-chunk trailer-section CRLF
pub record IsChunkedBody (raw body : List ℕ) : Type 0 where
  pub front : List ℕ
  pub chunks : AreAllChunks front body
  pub trailer : List Field
  pub last : LineEnd
  pub section : IsTrailer trailer last
  pub raw_is : raw ≡ front ++ print_section trailer last

-- these bytes are a body, and this is what it carries
abbrev pub IsWholeBody : Framing → List ℕ → List ℕ → Type 0
IsWholeBody (framings.Sized n) raw body = (length body ≡ n) × (raw ≡ body)
IsWholeBody framings.Chunked raw body = IsChunkedBody raw body

-- Of a body the bytes `raw` came, which carry `body`, and this comes next.
abbrev pub Leads : Framing → List ℕ → Stage → List ℕ → Type 0
Leads framing raw (stages.Rest left) body = (framing ≡ framings.Sized (length body + left)) × (raw ≡ body)
Leads framing raw stages.Line body = (framing ≡ framings.Chunked) × (chunks : List Chunk) × AreChunks raw body chunks
Leads framing raw (stages.Data left) body = (framing ≡ framings.Chunked) × IsInChunk raw body left
Leads framing raw stages.End body = (framing ≡ framings.Chunked) × IsInChunk raw body 0
Leads framing raw stages.Trailer body = (framing ≡ framings.Chunked) × AreAllChunks raw body
Leads framing raw stages.Done body = IsWholeBody framing raw body

-- The body, with what must still come of the piece that it is in, is within the limit.
abbrev pub HasRoom : Stage → List ℕ → Type 0
HasRoom (stages.Rest left) body = length body + left ≤ body_limit
HasRoom stages.Line body = length body ≤ body_limit
HasRoom (stages.Data left) body = (0 < left) × (length body + left ≤ body_limit)
HasRoom stages.End body = length body ≤ body_limit
HasRoom stages.Trailer body = length body ≤ body_limit
HasRoom stages.Done body = length body ≤ body_limit
