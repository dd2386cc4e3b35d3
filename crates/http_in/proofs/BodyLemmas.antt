-- How far a body is, one piece after another.
use Rattle.std.proofs.Common.{◌≡◌, ℕ, ◌+◌, ◌<◌, List, [], ◌∷◌, ◌++◌, length, refl}
use Rattle.std.proofs.Common.{ap, sym, subst, ◌∙◌, arith, append_assoc, append-nil, length-append}
use Rattle.std.specs.Prelude.{flat_map}
use Rattle.std.specs.List.{AllByRecursion}
use Rattle.std.proofs.lemmas.Grind.{flat_map-append}
use Rattle.httparse.specs.Ascii.{crlf_bytes}
use Rattle.httparse.specs.Grammar.{ChunkLine, Field, LineEnd, chunk_size, print_chunk_line, print_section}
use Rattle.http_in.specs.Chunks.{AreChunks, Chunk, IsChunk, IsInChunk, IsLine, IsTrailer, IsWholeBody}
use Rattle.http_in.specs.Chunks.{Leads, print_chunk}
use Rattle.http_said.specs.declared.framing.Framing.{Framing}
use Rattle.http_said.specs.declared.framing.Framing.TheVariants as framings
use Rattle.http_in.specs.declared.stage.Stage.TheVariants as stages

pub leads_rest : (framing : Framing) (raw body taken : List ℕ) (left rest : ℕ) → left ≡ length taken + rest
    → Leads framing raw (stages.Rest left) body → Leads framing (raw ++ taken) (stages.Rest rest) (body ++ taken)
leads_rest framing raw body taken left rest split l =
    let same : length body + left ≡ length (body ++ taken) + rest = omega (arith, split, length-append body taken) in
    (l.0 ∙ ap framings.Sized same, ap (λ x. x ++ taken) l.1)

pub leads_whole : (framing : Framing) (raw body taken : List ℕ) (left : ℕ) → left ≡ length taken
    → Leads framing raw (stages.Rest left) body → Leads framing (raw ++ taken) stages.Done (body ++ taken)
leads_whole framing raw body taken left split l =
    let same : length (body ++ taken) ≡ length body + left = omega (arith, split, length-append body taken) in
    subst (λ f. IsWholeBody f (raw ++ taken) (body ++ taken)) (sym l.0) (same, ap (λ x. x ++ taken) l.1)

pub leads_line : (framing : Framing) (raw body : List ℕ) (line : ChunkLine) (size : ℕ) → IsLine line
    → chunk_size line ≡ size → 0 < size → Leads framing raw stages.Line body
    → Leads framing (raw ++ print_chunk_line line) (stages.Data size) body
leads_line framing raw body line size is said some l = (
  l.0,
  record {
    before = raw;
    joined = body;
    chunks = l.1;
    line = line;
    bytes = [];
    whole = l.2;
    is_line = is;
    size = omega (arith, said);
    some = omega (arith, some);
    raw_is = ap (λ x. raw ++ x) (sym (append-nil (print_chunk_line line)));
    body_is = sym (append-nil body);
  },
)

pub leads_last : (framing : Framing) (raw body : List ℕ) (line : ChunkLine) → IsLine line → chunk_size line ≡ 0
    → Leads framing raw stages.Line body → Leads framing (raw ++ print_chunk_line line) stages.Trailer body
leads_last framing raw body line is none l = (
  l.0,
  record { before = raw; chunks = l.1; line = line; whole = l.2; is_line = is; size = none; raw_is = refl },
)

more_data : (raw body taken : List ℕ) (left rest : ℕ) → left ≡ length taken + rest → IsInChunk raw body left
    → IsInChunk (raw ++ taken) (body ++ taken) rest
more_data raw body taken left rest split i = record {
  before = i.before;
  joined = i.joined;
  chunks = i.chunks;
  line = i.line;
  bytes = i.bytes ++ taken;
  whole = i.whole;
  is_line = i.is_line;
  size = omega (arith, i.size, length-append i.bytes taken);
  some = omega (arith, i.some, length-append i.bytes taken);
  raw_is = ap (λ l. l ++ taken) i.raw_is ∙ append_assoc i.before (print_chunk_line i.line ++ i.bytes) taken
      ∙ ap (λ l. i.before ++ l) (append_assoc (print_chunk_line i.line) i.bytes taken);
  body_is = ap (λ l. l ++ taken) i.body_is ∙ append_assoc i.joined i.bytes taken;
}

pub leads_data : (framing : Framing) (raw body taken : List ℕ) (left rest : ℕ) → left ≡ length taken + rest
    → Leads framing raw (stages.Data left) body → Leads framing (raw ++ taken) (stages.Data rest) (body ++ taken)
leads_data framing raw body taken left rest split l = (l.0, more_data raw body taken left rest split l.1)

pub leads_to_end : (framing : Framing) (raw body taken : List ℕ) (left : ℕ) → left ≡ length taken
    → Leads framing raw (stages.Data left) body → Leads framing (raw ++ taken) stages.End (body ++ taken)
leads_to_end framing raw body taken left split l = (l.0, more_data raw body taken left 0 (omega (arith, split)) l.1)

AllByRecursion-more : (xs : List Chunk) (x : Chunk) → AllByRecursion IsChunk xs → IsChunk x
    → AllByRecursion IsChunk (xs ++ x ∷ [])
AllByRecursion-more [] x a b = (b, tt)
AllByRecursion-more (y ∷ ys) x a b = (a.0, AllByRecursion-more ys x a.1 b)

flat_one : (f : Chunk → List ℕ) (xs : List Chunk) (x : Chunk) → flat_map f (xs ++ x ∷ []) ≡ flat_map f xs ++ f x
flat_one f xs x = flat_map-append f xs (x ∷ []) ∙ ap (λ l. flat_map f xs ++ l) (append-nil (f x))

whole_chunk : (raw body : List ℕ) → (i : IsInChunk raw body 0)
    → AreChunks (raw ++ crlf_bytes) body (i.chunks ++ (record { line = i.line; bytes = i.bytes }) ∷ [])
whole_chunk raw body i =
    let chunk : Chunk = record { line = i.line; bytes = i.bytes } in
    record {
      each = AllByRecursion-more i.chunks chunk i.whole.each
          (record { line = i.is_line; size = omega (arith, i.size); some = omega (arith, i.some) });
      raw_is = ap (λ l. l ++ crlf_bytes) i.raw_is
          ∙ append_assoc i.before (print_chunk_line i.line ++ i.bytes) crlf_bytes
          ∙ ap (λ l. i.before ++ l) (append_assoc (print_chunk_line i.line) i.bytes crlf_bytes)
          ∙ ap (λ l. l ++ print_chunk chunk) i.whole.raw_is
          ∙ sym (flat_one print_chunk i.chunks chunk);
      body_is = i.body_is ∙ ap (λ l. l ++ i.bytes) i.whole.body_is
          ∙ sym (flat_one (λ (c : Chunk). c.bytes) i.chunks chunk);
    }

pub leads_end : (framing : Framing) (raw body : List ℕ) → Leads framing raw stages.End body
    → Leads framing (raw ++ crlf_bytes) stages.Line body
leads_end framing raw body l = (l.0, _, whole_chunk raw body l.1)

pub leads_trailer : (framing : Framing) (raw body : List ℕ) (fields : List Field) (last : LineEnd)
    → IsTrailer fields last → Leads framing raw stages.Trailer body
    → Leads framing (raw ++ print_section fields last) stages.Done body
leads_trailer framing raw body fields last is l =
    subst (λ f. IsWholeBody f (raw ++ print_section fields last) body) (sym l.0)
    (record { front = raw; chunks = l.1; trailer = fields; last = last; section = is; raw_is = refl })
