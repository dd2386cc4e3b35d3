-- Where a body is out of form, and where it waits for more: both are at one place of it.
use Rattle.std.proofs.Common.{◌≢◌, ◌-◌}
use Rattle.std.proofs.Common.{◌≡◌, ℕ, ◌+◌, ◌<◌, ◌≤◌, List, [], ◌∷◌, ◌++◌, take, length, Some, None, refl, ap, sym}
use Rattle.std.proofs.Common.{subst, ◌∙◌, inl, inr, arith, append_assoc, append-nil, length-append}
use Rattle.std.specs.Prelude.{Option, flat_map}
use Rattle.std.specs.List.{AllByRecursion}
use Rattle.std.proofs.lemmas.List.{length-take}
use Rattle.httparse.specs.Ascii.{crlf_bytes, line_feed}
use Rattle.httparse.specs.Grammar.{ChunkLine, MayBecomeSection, chunk_size, print_chunk_line, print_section}
use Rattle.httparse.proofs.ChunkLemmas.{chunk_line_unique}
use Rattle.http_said.specs.Limits.{body_limit}
use Rattle.http_said.specs.declared.framing.Framing.{Framing}
use Rattle.http_said.specs.declared.framing.Framing.TheVariants as framings
use Rattle.http_in.specs.Chunks.{Chunk, HasRoom, IsChunk, IsChunkedBody, IsInChunk, IsLine, IsWholeBody, Leads}
use Rattle.http_in.specs.Chunks.{print_chunk}
use Rattle.http_in.specs.Faults.{HasBadLine, HasBadSection, HasLargeSection, Hits, IsInEnd, IsInLine, IsInSection}
use Rattle.http_in.specs.Faults.{IsNoEnd, Waits}
use Rattle.http_in.specs.Limits.{field_limit, head_limit}
use Rattle.http_in.specs.Lines.{GoesOver, lines_in}
use Rattle.http_in.specs.declared.fault.RequestFault.{RequestFault}
use Rattle.http_in.specs.declared.stage.Stage.{Stage}
use Rattle.http_in.specs.declared.stage.Stage.TheVariants as stages
use Rattle.http_in.proofs.RemainLemmas.{in_front, over_text}

-- the body has this fault here, or it waits here
abbrev pub Stuck : ℕ → Stage → List ℕ → List ℕ → Option RequestFault → Type 0
Stuck at stage body rest (Some fault) = Hits at stage body rest fault
Stuck at stage body rest None = Waits stage rest

-- ---- at a chunk line

line_not_bad : (rest : List ℕ) (line : ChunkLine) (more : List ℕ) → IsLine line → rest ≡ print_chunk_line line ++ more
    → HasBadLine rest → ⊥
line_not_bad rest line more is e (inl f) = f.4 f.1 line more (is.form, sym f.2 ∙ e)
line_not_bad rest line more is e (inr f) =
    let text : List ℕ = print_chunk_line line in
    f.1 line (take (head_limit - length text) more) (is.form, ap (take head_limit) e ∙ in_front text more is.short)

-- it is not stuck where a line comes for whose size there is room
pub line_goes_on : (at : ℕ) (body rest : List ℕ) (o : Option RequestFault) (line : ChunkLine) (more : List ℕ)
    → Stuck at stages.Line body rest o → IsLine line → rest ≡ print_chunk_line line ++ more
    → length body + chunk_size line ≤ body_limit → ⊥
line_goes_on at body rest (Some fault) line more (inl f) is e room = line_not_bad rest line more is e f.1
line_goes_on at body rest (Some fault) line more (inr f) is e room =
    let t = f.1 in
    let same = chunk_line_unique rest line t.line more t.behind (is.form, e) (t.is_line.form, t.whole) in
    absurd (omega (arith, room, t.over, ap chunk_size same.0))
line_goes_on at body rest None line more w is e room = w.1 line more (is.form, e)

bad_line_ends : (rest : List ℕ) → HasBadLine rest → IsInLine rest → ⊥
bad_line_ends rest (inl f) w =
    let may = w.2 in
    f.4 (f.1 ++ may.0) may.1 []
    (may.2.0, sym (append_assoc f.0 f.1 may.0) ∙ ap (λ l. l ++ may.0) (sym f.2) ∙ may.2.1)
bad_line_ends rest (inr f) w = absurd (omega (arith, f.0, w.0))

pub line_one : (at : ℕ) (body body' rest : List ℕ) (o p : Option RequestFault) → Stuck at stages.Line body rest o
    → Stuck at stages.Line body' rest p → o ≡ p
line_one at body body' rest (Some f) (Some g) (inl x) (inl y) = ap (λ z. Some z) (x.0 ∙ sym y.0)
line_one at body body' rest (Some f) (Some g) (inl x) (inr y) =
    absurd (line_not_bad rest y.1.line y.1.behind y.1.is_line y.1.whole x.1)
line_one at body body' rest (Some f) (Some g) (inr x) (inl y) =
    absurd (line_not_bad rest x.1.line x.1.behind x.1.is_line x.1.whole y.1)
line_one at body body' rest (Some f) (Some g) (inr x) (inr y) = ap (λ z. Some z) (x.0 ∙ sym y.0)
line_one at body body' rest (Some f) None (inl x) w = absurd (bad_line_ends rest x.1 w)
line_one at body body' rest (Some f) None (inr x) w =
    absurd (w.1 x.1.line x.1.behind (x.1.is_line.form, x.1.whole))
line_one at body body' rest None (Some g) w (inl y) = absurd (bad_line_ends rest y.1 w)
line_one at body body' rest None (Some g) w (inr y) =
    absurd (w.1 y.1.line y.1.behind (y.1.is_line.form, y.1.whole))
line_one at body body' rest None None w v = refl

-- ---- after a chunk's data

pub end_goes_on : (at : ℕ) (body rest more : List ℕ) (o : Option RequestFault) → Stuck at stages.End body rest o
    → rest ≡ crlf_bytes ++ more → ⊥
end_goes_on at body rest more (Some fault) f e = (rw e at f.1) refl
end_goes_on at body rest more None (inl w) e =
    absurd (omega (arith, ap length w, ap length e, length-append crlf_bytes more))
end_goes_on at body rest more None (inr w) e =
    absurd (omega (arith, ap length w, ap length e, length-append crlf_bytes more))

no_end_ends : (rest : List ℕ) → IsNoEnd rest → IsInEnd rest → ⊥
no_end_ends rest f (inl w) = rw w at f
no_end_ends rest f (inr w) = (rw w at f) refl

pub end_one : (at : ℕ) (body body' rest : List ℕ) (o p : Option RequestFault) → Stuck at stages.End body rest o
    → Stuck at stages.End body' rest p → o ≡ p
end_one at body body' rest (Some f) (Some g) x y = ap (λ z. Some z) (x.0 ∙ sym y.0)
end_one at body body' rest (Some f) None x w = absurd (no_end_ends rest x.1 w)
end_one at body body' rest None (Some g) w y = absurd (no_end_ends rest y.1 w)
end_one at body body' rest None None w v = refl

-- ---- too many lines

-- bytes with few lines do not go over
pub few_over : (bytes front : List ℕ) (n lines : ℕ) → lines_in bytes ≤ lines → GoesOver (take n bytes) front lines → ⊥
few_over bytes front n lines few o =
    let longer = over_text bytes [] bytes front n lines (sym (append-nil bytes)) o few in
    absurd (omega (
      arith,
      ap length longer.1,
      length-append bytes longer.0,
      ap length o.whole,
      length-append front (line_feed ∷ o.later),
      length-take n bytes,
    ))

-- ---- at a trailer section

-- what goes on after a front that never becomes a section does not become one
section_behind : (rest front piece : List ℕ) → (f : HasBadSection rest) → front ≡ f.front ++ piece
    → MayBecomeSection front → ⊥
section_behind rest front piece f e may =
    f.never (piece ++ may.0) may.1 may.2 []
    (may.3.0, sym (append_assoc f.front piece may.0) ∙ ap (λ l. l ++ may.0) (sym e) ∙ may.3.1)

bad_not_large : (rest : List ℕ) → HasBadSection rest → HasLargeSection rest → ⊥
bad_not_large rest f (inl x) =
    section_behind rest (take head_limit rest) (take (head_limit - length f.front) f.later) f
    (ap (take head_limit) f.whole ∙ in_front f.front f.later f.short) x.1.may
bad_not_large rest f (inr x) =
    let longer = over_text f.front f.later rest x.front head_limit field_limit f.whole x.over f.few in
    section_behind rest x.front longer.0 f longer.1 x.is_front.may

bad_section_ends : (rest : List ℕ) → HasBadSection rest → IsInSection rest → ⊥
bad_section_ends rest f w = section_behind rest rest f.later f f.whole w.1.may

large_section_ends : (rest : List ℕ) → HasLargeSection rest → IsInSection rest → ⊥
large_section_ends rest (inl x) w = absurd (omega (arith, x.0, w.0))
large_section_ends rest (inr x) w = few_over rest x.front head_limit field_limit w.1.few x.over

pub section_one : (at : ℕ) (body body' rest : List ℕ) (o p : Option RequestFault) → Stuck at stages.Trailer body rest o
    → Stuck at stages.Trailer body' rest p → o ≡ p
section_one at body body' rest (Some f) (Some g) (inl x) (inl y) = ap (λ z. Some z) (x.0 ∙ sym y.0)
section_one at body body' rest (Some f) (Some g) (inl x) (inr y) = absurd (bad_not_large rest x.1 y.1)
section_one at body body' rest (Some f) (Some g) (inr x) (inl y) = absurd (bad_not_large rest y.1 x.1)
section_one at body body' rest (Some f) (Some g) (inr x) (inr y) = ap (λ z. Some z) (x.0 ∙ sym y.0)
section_one at body body' rest (Some f) None (inl x) w = absurd (bad_section_ends rest x.1 w)
section_one at body body' rest (Some f) None (inr x) w = absurd (large_section_ends rest x.1 w)
section_one at body body' rest None (Some g) w (inl y) = absurd (bad_section_ends rest y.1 w)
section_one at body body' rest None (Some g) w (inr y) = absurd (large_section_ends rest y.1 w)
section_one at body body' rest None None w v = refl

-- ---- what a stage has after whole chunks

-- a line, and data of which this much is missing
pub record InTail (text part : List ℕ) (left : ℕ) : Type 0 where
  pub line : ChunkLine
  pub is_line : IsLine line
  pub size : chunk_size line ≡ length part + left
  pub some : 0 < length part + left
  pub text_is : text ≡ print_chunk_line line ++ part

-- the last line, and what follows it
pub record LastTail (text part behind : List ℕ) : Type 0 where
  pub line : ChunkLine
  pub is_line : IsLine line
  pub size : chunk_size line ≡ 0
  pub text_is : text ≡ print_chunk_line line ++ behind
  pub none : part ≡ []

abbrev pub Tail : Stage → List ℕ → List ℕ → Type 0
Tail (stages.Rest left) text part = ⊥
Tail stages.Line text part = (text ≡ []) × (part ≡ [])
Tail (stages.Data left) text part = InTail text part left
Tail stages.End text part = InTail text part 0
Tail stages.Trailer text part = LastTail text part []
Tail stages.Done text part = (behind : List ℕ) × LastTail text part behind

abbrev data_of : List Chunk → List ℕ
data_of chunks = flat_map (λ (chunk : Chunk). chunk.bytes) chunks

pub record IsChain (stage : Stage) (raw body : List ℕ) : Type 0 where
  pub chunks : List Chunk
  pub each : AllByRecursion IsChunk chunks
  pub text : List ℕ
  pub part : List ℕ
  pub tail : Tail stage text part
  pub raw_is : raw ≡ flat_map print_chunk chunks ++ text
  pub body_is : body ≡ flat_map (λ (chunk : Chunk). chunk.bytes) chunks ++ part

in_chain : (raw body : List ℕ) (left : ℕ) (stage : Stage) → (i : IsInChunk raw body left)
    → (InTail (print_chunk_line i.line ++ i.bytes) i.bytes left
    → Tail stage (print_chunk_line i.line ++ i.bytes) i.bytes)
    → IsChain stage raw body
in_chain raw body left stage i tail = record {
  chunks = i.chunks;
  each = i.whole.each;
  text = print_chunk_line i.line ++ i.bytes;
  part = i.bytes;
  tail = tail (record { line = i.line; is_line = i.is_line; size = i.size; some = i.some; text_is = refl });
  raw_is = i.raw_is ∙ ap (λ l. l ++ (print_chunk_line i.line ++ i.bytes)) i.whole.raw_is;
  body_is = i.body_is ∙ ap (λ l. l ++ i.bytes) i.whole.body_is;
}

pub chain_of : (framing : Framing) (raw : List ℕ) (stage : Stage) (body : List ℕ) → framing ≡ framings.Chunked
    → Leads framing raw stage body → IsChain stage raw body
chain_of framing raw (stages.Rest left) body is l = absurd (never_sized framing (length body + left) is l.0)
  where
    never_sized : (framing : Framing) (n : ℕ) → framing ≡ framings.Chunked → framing ≡ framings.Sized n → ⊥
    never_sized framing n p q = cc
chain_of framing raw stages.Line body is l = record {
  chunks = l.1;
  each = l.2.each;
  text = [];
  part = [];
  tail = (refl, refl);
  raw_is = l.2.raw_is ∙ sym (append-nil (flat_map print_chunk l.1));
  body_is = l.2.body_is ∙ sym (append-nil (data_of l.1));
}
chain_of framing raw (stages.Data left) body is l = in_chain raw body left (stages.Data left) l.1 (λ t. t)
chain_of framing raw stages.End body is l = in_chain raw body 0 stages.End l.1 (λ t. t)
chain_of framing raw stages.Trailer body is l =
    let a = l.1 in
    record {
      chunks = a.chunks;
      each = a.whole.each;
      text = print_chunk_line a.line;
      part = [];
      tail = record {
        line = a.line;
        is_line = a.is_line;
        size = a.size;
        text_is = sym (append-nil (print_chunk_line a.line));
        none = refl;
      };
      raw_is = a.raw_is ∙ ap (λ l. l ++ print_chunk_line a.line) a.whole.raw_is;
      body_is = a.whole.body_is ∙ sym (append-nil (data_of a.chunks));
    }
chain_of framing raw stages.Done body is l =
    let w : IsChunkedBody raw body = subst (λ f. IsWholeBody f raw body) is l in
    let a = w.chunks in
    let section : List ℕ = print_section w.trailer w.last in
    record {
      chunks = a.chunks;
      each = a.whole.each;
      text = print_chunk_line a.line ++ section;
      part = [];
      tail = (
        section,
        record { line = a.line; is_line = a.is_line; size = a.size; text_is = refl; none = refl },
      );
      raw_is = w.raw_is ∙ ap (λ l. l ++ section) (a.raw_is ∙ ap (λ l. l ++ print_chunk_line a.line) a.whole.raw_is)
          ∙ append_assoc (flat_map print_chunk a.chunks) (print_chunk_line a.line) section;
      body_is = a.whole.body_is ∙ sym (append-nil (data_of a.chunks));
    }

-- ---- two tails in one place

-- a line with room, where another may be stuck
pub record HasLine (bytes : List ℕ) (before : ℕ) : Type 0 where
  pub line : ChunkLine
  pub more : List ℕ
  pub is_line : IsLine line
  pub whole : bytes ≡ print_chunk_line line ++ more
  pub room : before + chunk_size line ≤ body_limit

pub never_line : (at before : ℕ) (text part body rest bytes : List ℕ) (o : Option RequestFault)
    → Tail stages.Line text part
    → Stuck at stages.Line body rest o → length body ≡ before + length part → text ++ rest ≡ bytes
    → HasLine bytes before → ⊥
never_line at before text part body rest bytes o tail x size e h =
    line_goes_on at body rest o h.line h.more x h.is_line
    (ap (λ l. l ++ rest) (sym tail.0) ∙ e ∙ h.whole)
    (omega (arith, h.room, size, ap length tail.1))

in_has_line : (text part body rest : List ℕ) (left before : ℕ) → InTail text part left
    → length body ≡ before + length part → length body + left ≤ body_limit → HasLine (text ++ rest) before
in_has_line text part body rest left before t size room = record {
  line = t.line;
  more = part ++ rest;
  is_line = t.is_line;
  whole = ap (λ l. l ++ rest) t.text_is ∙ append_assoc (print_chunk_line t.line) part rest;
  room = omega (arith, t.size, size, room);
}

last_has_line : (text part behind body rest : List ℕ) (before : ℕ) → LastTail text part behind
    → length body ≡ before + length part → length body ≤ body_limit → HasLine (text ++ rest) before
last_has_line text part behind body rest before t size room = record {
  line = t.line;
  more = behind ++ rest;
  is_line = t.is_line;
  whole = ap (λ l. l ++ rest) t.text_is ∙ append_assoc (print_chunk_line t.line) behind rest;
  room = omega (arith, t.size, size, room);
}

-- where the tail is not a line's front
pub tail_has_line : (stage : Stage) (text part body rest : List ℕ) (before : ℕ) → stage ≢ stages.Line
    → Tail stage text part
    → length body ≡ before + length part → HasRoom stage body → HasLine (text ++ rest) before
tail_has_line (stages.Rest left) text part body rest before other t size room = absurd t
tail_has_line stages.Line text part body rest before other t size room = absurd (other refl)
tail_has_line (stages.Data left) text part body rest before other t size room =
    in_has_line text part body rest left before t size room.1
tail_has_line stages.End text part body rest before other t size room =
    in_has_line text part body rest 0 before t size (omega (arith, room))
tail_has_line stages.Trailer text part body rest before other t size room =
    last_has_line text part [] body rest before t size room
tail_has_line stages.Done text part body rest before other t size room =
    last_has_line text part t.0 body rest before t.1 size room
