-- Of a whole body a part came: what remains of it after that part. So a body is one, and it is neither out of form
-- nor does it wait for more.
use Rattle.std.proofs.Common.{◌≡◌, ℕ, ◌+◌, ◌-◌, ◌≤◌, Bool, true, false, List, [], ◌∷◌, ◌++◌, take, drop, length, ◌<◌}
use Rattle.std.proofs.Common.{refl, ap, sym, subst, ◌∙◌, inl, inr, arith, append_assoc, append-nil, length-append}
use Rattle.std.specs.Prelude.{flat_map, nat_le}
use Rattle.std.specs.List.{AllByRecursion}
use Rattle.std.proofs.lemmas.List.{drop-append-le, length-drop, nil_from_length, take-append-drop, take-append-le}
use Rattle.std.proofs.lemmas.List.{take_all, take_at}
use Rattle.std.proofs.lemmas.Bool.Decides.{nat_tests}
use Rattle.httparse.specs.Ascii.{crlf_bytes, line_feed}
use Rattle.httparse.specs.Grammar.{ChunkLine, Field, LineEnd, chunk_size, print_chunk_line}
use Rattle.httparse.specs.Grammar.{print_section}
use Rattle.httparse.proofs.ChunkLemmas.{chunk_line_unique}
use Rattle.httparse.proofs.GrammarLemmas.{section_unique}
use Rattle.http_said.specs.Limits.{body_limit}
use Rattle.http_said.specs.declared.framing.Framing.{Framing}
use Rattle.http_said.specs.declared.framing.Framing.TheVariants as framings
use Rattle.http_in.specs.Chunks.{AreAllChunks, Chunk, IsChunk, IsChunkedBody, IsInChunk, IsLine, IsTrailer}
use Rattle.http_in.specs.Chunks.{IsWholeBody, Leads, print_chunk}
use Rattle.http_in.specs.Faults.{HasBadLine, HasBadSection, HasLargeSection, HasSectionLine, Hits, IsTooMuch, Waits}
use Rattle.http_in.specs.Lacks.{Lacks}
use Rattle.http_in.specs.Limits.{field_limit, head_limit}
use Rattle.http_in.specs.Lines.{GoesOver, lines_in}
use Rattle.http_in.specs.declared.fault.RequestFault.{RequestFault}
use Rattle.http_in.specs.declared.stage.Stage.{Stage}
use Rattle.http_in.specs.declared.stage.Stage.TheVariants as stages
use Rattle.http_in.proofs.CountLemmas.{lines_before, whole_section_lines}
use Rattle.http_in.proofs.HeadLemmas.{take_append}

-- ---- lists

-- of two splits of one list the longer front is the shorter one and a piece
pub record IsSplit (front later front_long later_long : List ℕ) : Type 0 where
  pub piece : List ℕ
  pub long_is : front_long ≡ front ++ piece
  pub later_is : later ≡ piece ++ later_long
  pub size : length front_long ≡ length front + length piece

pub split_from : (front later front_long later_long : List ℕ) → front ++ later ≡ front_long ++ later_long
    → length front ≤ length front_long → IsSplit front later front_long later_long
split_from front later front_long later_long e fits =
    let n = length front in
    let front_is : take n front_long ≡ front =
    sym (take-append-le n front_long later_long fits) ∙ ap (take n) (sym e) ∙ take_at front later n refl in
    record {
      piece = drop n front_long;
      long_is = sym (take-append-drop n front_long) ∙ ap (λ l. l ++ drop n front_long) front_is;
      later_is = sym (drop_front front later) ∙ ap (drop n) e ∙ drop-append-le n front_long later_long fits;
      size = omega (arith, length-drop n front_long, fits);
    }
  where
    drop_front : (a b : List ℕ) → drop (length a) (a ++ b) ≡ b
    drop_front a b = drop-append-le (length a) a b (omega arith)
        ∙ ap (λ l. l ++ b) (nil_from_length (drop (length a) a) (omega (arith, length-drop (length a) a)))

-- two fronts of one length are one
pub same_front : (a b x y : List ℕ) → a ++ x ≡ b ++ y → length a ≡ length b → (b ≡ a) × (x ≡ y)
same_front a b x y e same =
    let s = split_from a x b y e (omega (arith, same)) in
    let none : s.piece ≡ [] = nil_from_length s.piece (omega (arith, s.size, same)) in
    (s.long_is ∙ ap (λ l. a ++ l) none ∙ append-nil a, s.later_is ∙ ap (λ l. l ++ y) none)

-- ---- chunks, one after another

-- chunks, the last line, a trailer section, and what is after
pub record IsChunked (bytes : List ℕ) (chunks : List Chunk) (body behind : List ℕ) : Type 0 where
  pub each : AllByRecursion IsChunk chunks
  pub body_is : body ≡ flat_map (λ (chunk : Chunk). chunk.bytes) chunks
  pub line : ChunkLine
  pub is_line : IsLine line
  pub size : chunk_size line ≡ 0
  pub fields : List Field
  pub last : LineEnd
  pub section : IsTrailer fields last
  pub bytes_is : bytes
      ≡ flat_map print_chunk chunks ++ (print_chunk_line line ++ (print_section fields last ++ behind))

pub chunked_from : (bytes raw body behind : List ℕ) → IsChunkedBody raw body → bytes ≡ raw ++ behind
    → (chunks : List Chunk) × IsChunked bytes chunks body behind
chunked_from bytes raw body behind is e =
    let all = is.chunks in
    let chunks : List ℕ = flat_map print_chunk all.chunks in
    let line : List ℕ = print_chunk_line all.line in
    let section : List ℕ = print_section is.trailer is.last in (
      all.chunks,
      record {
        each = all.whole.each;
        body_is = all.whole.body_is;
        line = all.line;
        is_line = all.is_line;
        size = all.size;
        fields = is.trailer;
        last = is.last;
        section = is.section;
        bytes_is = e ∙ ap (λ l. l ++ behind) (is.raw_is ∙ ap (λ l. l ++ section)
            (all.raw_is ∙ ap (λ l. l ++ line) all.whole.raw_is))
            ∙ append_assoc (chunks ++ line) section behind ∙ append_assoc chunks line (section ++ behind);
      },
    )

-- a chunk line, as the first of bytes
pub line_first : (c : Chunk) (more : List ℕ)
    → print_chunk c ++ more ≡ print_chunk_line c.line ++ (c.bytes ++ (crlf_bytes ++ more))
line_first c more =
    append_assoc (print_chunk_line c.line) (c.bytes ++ crlf_bytes) more
    ∙ ap (λ l. print_chunk_line c.line ++ l) (append_assoc c.bytes crlf_bytes more)

-- a chunk whose line and first data these are
pub chunk_begun : (line : ChunkLine) (part rest right : List ℕ) (left : ℕ) (d : Chunk) → IsLine line
    → chunk_size line ≡ length part + left → IsChunk d
    → print_chunk_line line ++ (part ++ rest) ≡ print_chunk d ++ right
    → (s : IsSplit part rest d.bytes (crlf_bytes ++ right)) × (length s.piece ≡ left)
chunk_begun line part rest right left d is size chunk e =
    let same = chunk_line_unique (print_chunk_line line ++ (part ++ rest)) line d.line (part ++ rest)
    (d.bytes ++ (crlf_bytes ++ right)) (is.form, refl) (chunk.line.form, e ∙ line_first d right) in
    let long : length d.bytes ≡ length part + left = sym chunk.size ∙ sym (ap chunk_size same.0) ∙ size in
    let s = split_from part rest d.bytes (crlf_bytes ++ right) same.1 (omega (arith, long)) in
    (s, omega (arith, s.size, long))

-- a line of size 0 begins no chunk
pub not_chunk : (line : ChunkLine) (rest right : List ℕ) (d : Chunk) → IsLine line → chunk_size line ≡ 0 → IsChunk d
    → print_chunk_line line ++ rest ≡ print_chunk d ++ right → ⊥
not_chunk line rest right d is none chunk e =
    let same = chunk_line_unique (print_chunk_line line ++ rest) line d.line rest (d.bytes ++ (crlf_bytes ++ right))
    (is.form, refl) (chunk.line.form, e ∙ line_first d right) in
    absurd (omega (arith, chunk.size, chunk.some, none, ap chunk_size same.0))

pub one_chunk : (c d : Chunk) (left right : List ℕ) → IsChunk c → IsChunk d
    → print_chunk c ++ left ≡ print_chunk d ++ right
    → (d.bytes ≡ c.bytes) × (left ≡ right)
one_chunk c d left right is chunk e =
    let begun = chunk_begun c.line c.bytes (crlf_bytes ++ left) right 0 d is.line (omega (arith, is.size)) chunk
    (sym (line_first c left) ∙ e) in
    let none : begun.0.piece ≡ [] = nil_from_length begun.0.piece begun.1 in (
      begun.0.long_is ∙ ap (λ l. c.bytes ++ l) none ∙ append-nil c.bytes,
      ap (drop 2) (begun.0.later_is ∙ ap (λ l. l ++ (crlf_bytes ++ right)) none),
    )

-- what is chunked after other chunks
pub record IsBehind (rest behind body part : List ℕ) : Type 0 where
  pub chunks : List Chunk
  pub tail : List ℕ
  pub chunked : IsChunked rest chunks tail behind
  pub body_is : body ≡ part ++ tail

-- the chunks after the first
later_chunks : (bytes body behind : List ℕ) (d : Chunk) (ds : List Chunk) → (is : IsChunked bytes (d ∷ ds) body behind)
    → IsChunked (flat_map print_chunk ds ++ (print_chunk_line is.line ++ (print_section is.fields is.last ++ behind)))
    ds (flat_map (λ (chunk : Chunk). chunk.bytes) ds) behind
later_chunks bytes body behind d ds is = record {
  each = is.each.1;
  body_is = refl;
  line = is.line;
  is_line = is.is_line;
  size = is.size;
  fields = is.fields;
  last = is.last;
  section = is.section;
  bytes_is = refl;
}

-- as a chunk and what follows it
first_chunk : (bytes body behind : List ℕ) (d : Chunk) (ds : List Chunk) → (is : IsChunked bytes (d ∷ ds) body behind)
    → bytes ≡ print_chunk d
    ++ (flat_map print_chunk ds ++ (print_chunk_line is.line ++ (print_section is.fields is.last ++ behind)))
first_chunk bytes body behind d ds is =
    is.bytes_is ∙ append_assoc (print_chunk d) (flat_map print_chunk ds)
    (print_chunk_line is.line ++ (print_section is.fields is.last ++ behind))

behind_chunks : (cs ds : List Chunk) (bytes body behind rest : List ℕ) → AllByRecursion IsChunk cs
    → bytes ≡ flat_map print_chunk cs ++ rest → IsChunked bytes ds body behind
    → IsBehind rest behind body (flat_map (λ (chunk : Chunk). chunk.bytes) cs)
behind_chunks [] ds bytes body behind rest all e is =
    record { chunks = ds; tail = body; chunked = subst (λ l. IsChunked l ds body behind) e is; body_is = refl }
behind_chunks (c ∷ cs) [] bytes body behind rest all e is =
    absurd (not_chunk is.line (print_section is.fields is.last ++ behind) (flat_map print_chunk cs ++ rest) c is.is_line
    is.size all.0 (sym is.bytes_is ∙ e ∙ append_assoc (print_chunk c) (flat_map print_chunk cs) rest))
behind_chunks (c ∷ cs) (d ∷ ds) bytes body behind rest all e is =
    let data_of : List Chunk → List ℕ = flat_map (λ (chunk : Chunk). chunk.bytes) in
    let same = one_chunk c d (flat_map print_chunk cs ++ rest)
    (flat_map print_chunk ds ++ (print_chunk_line is.line ++ (print_section is.fields is.last ++ behind)))
    all.0 is.each.0
    (sym (append_assoc (print_chunk c) (flat_map print_chunk cs) rest) ∙ sym e
    ∙ first_chunk bytes body behind d ds is) in
    let later = behind_chunks cs ds _ (data_of ds) behind rest all.1 (sym same.1)
    (later_chunks bytes body behind d ds is) in
    record {
      chunks = later.chunks;
      tail = later.tail;
      chunked = later.chunked;
      body_is = is.body_is ∙ ap (λ l. l ++ data_of ds) same.0 ∙ ap (λ l. c.bytes ++ l) later.body_is
          ∙ sym (append_assoc c.bytes (data_of cs) later.tail);
    }

-- ---- what remains

-- of a chunk's data this much is missing
pub record IsRest (part rest body behind : List ℕ) (left : ℕ) : Type 0 where
  pub missing : List ℕ
  pub after : List ℕ
  pub size : length missing ≡ left
  pub rest_is : rest ≡ missing ++ (crlf_bytes ++ after)

-- Of the body `part` came, `rest` follows, and `after` stands after all of the body.
abbrev pub Remains : Stage → List ℕ → List ℕ → List ℕ → List ℕ → Type 0
Remains (stages.Rest left) part rest body behind = IsSplit part rest body behind × (length body ≡ length part + left)
Remains stages.Line part rest body behind = IsBehind rest behind body part
Remains (stages.Data left) part rest body behind = IsRest part rest body behind left
Remains stages.End part rest body behind = IsRest part rest body behind 0
Remains stages.Trailer part rest body behind =
    (fields : List Field) × (last : LineEnd) × IsTrailer fields last × (body ≡ part)
    × (rest ≡ print_section fields last ++ behind)
Remains stages.Done part rest body behind = (body ≡ part) × (rest ≡ behind)

remains_chunk : (raw part rest raw_whole body behind after : List ℕ) (left : ℕ) → IsInChunk raw part left
    → after ≡ raw ++ rest → IsChunkedBody raw_whole body → after ≡ raw_whole ++ behind
    → IsRest part rest body behind left
remains_chunk raw part rest raw_whole body behind after left i e whole w =
    by_chunks start.chunks start.chunked
  where
    line : List ℕ
    line = print_chunk_line i.line

    chunked : (chunks : List Chunk) × IsChunked after chunks body behind
    chunked = chunked_from after raw_whole body behind whole w

    front_is : after ≡ flat_map print_chunk i.chunks ++ (line ++ (i.bytes ++ rest))
    front_is =
        e ∙ ap (λ l. l ++ rest) (i.raw_is ∙ ap (λ l. l ++ (line ++ i.bytes)) i.whole.raw_is)
        ∙ append_assoc (flat_map print_chunk i.chunks) (line ++ i.bytes) rest
        ∙ ap (λ l. flat_map print_chunk i.chunks ++ l) (append_assoc line i.bytes rest)

    start : IsBehind (line ++ (i.bytes ++ rest)) behind body (flat_map (λ (chunk : Chunk). chunk.bytes) i.chunks)
    start =
        behind_chunks i.chunks chunked.0 after body behind (line ++ (i.bytes ++ rest)) i.whole.each front_is chunked.1

    by_chunks : (ds : List Chunk) → IsChunked (line ++ (i.bytes ++ rest)) ds start.tail behind
        → IsRest part rest body behind left
    by_chunks [] is =
        let same = chunk_line_unique (line ++ (i.bytes ++ rest)) i.line is.line (i.bytes ++ rest)
        (print_section is.fields is.last ++ behind) (i.is_line.form, refl) (is.is_line.form, is.bytes_is) in
        absurd (omega (arith, i.size, i.some, is.size, ap chunk_size same.0))
    by_chunks (d ∷ ds) is =
        let right : List ℕ =
        flat_map print_chunk ds ++ (print_chunk_line is.line ++ (print_section is.fields is.last ++ behind)) in
        let begun = chunk_begun i.line i.bytes rest right left d i.is_line i.size is.each.0
        (first_chunk (line ++ (i.bytes ++ rest)) start.tail behind d ds is) in
        record { missing = begun.0.piece; after = right; size = begun.1; rest_is = begun.0.later_is }

-- after the last line
remains_trailer : (raw part rest raw_whole body behind after : List ℕ) → AreAllChunks raw part
    → after ≡ raw ++ rest → IsChunkedBody raw_whole body → after ≡ raw_whole ++ behind
    → Remains stages.Trailer part rest body behind
remains_trailer raw part rest raw_whole body behind after a e whole w = by_chunks start.chunks start.chunked
  where
    line : List ℕ
    line = print_chunk_line a.line

    chunked : (chunks : List Chunk) × IsChunked after chunks body behind
    chunked = chunked_from after raw_whole body behind whole w

    front_is : after ≡ flat_map print_chunk a.chunks ++ (line ++ rest)
    front_is =
        e ∙ ap (λ l. l ++ rest) (a.raw_is ∙ ap (λ l. l ++ line) a.whole.raw_is)
        ∙ append_assoc (flat_map print_chunk a.chunks) line rest

    start : IsBehind (line ++ rest) behind body (flat_map (λ (chunk : Chunk). chunk.bytes) a.chunks)
    start = behind_chunks a.chunks chunked.0 after body behind (line ++ rest) a.whole.each front_is chunked.1

    by_chunks : (ds : List Chunk) → IsChunked (line ++ rest) ds start.tail behind
        → Remains stages.Trailer part rest body behind
    by_chunks [] is =
        let same = chunk_line_unique (line ++ rest) a.line is.line rest (print_section is.fields is.last ++ behind)
        (a.is_line.form, refl) (is.is_line.form, is.bytes_is) in (
          is.fields,
          is.last,
          is.section,
          start.body_is
              ∙ ap (λ l. flat_map (λ (chunk : Chunk). chunk.bytes) a.chunks ++ l) is.body_is
              ∙ append-nil (flat_map (λ (chunk : Chunk). chunk.bytes) a.chunks) ∙ sym a.whole.body_is,
          same.1,
        )
    by_chunks (d ∷ ds) is =
        absurd (not_chunk a.line rest _ d a.is_line a.size is.each.0
        (first_chunk (line ++ rest) start.tail behind d ds is))

remains_done : (raw part rest raw_whole body behind after : List ℕ) → IsChunkedBody raw part
    → after ≡ raw ++ rest → IsChunkedBody raw_whole body → after ≡ raw_whole ++ behind
    → (body ≡ part) × (rest ≡ behind)
remains_done raw part rest raw_whole body behind after is e whole w =
    let section : List ℕ = print_section is.trailer is.last in
    let r = remains_trailer is.front part (section ++ rest) raw_whole body behind after is.chunks
    (e ∙ ap (λ l. l ++ rest) is.raw_is ∙ append_assoc is.front section rest) whole w in
    let same = section_unique (section ++ rest) is.trailer r.0 is.last r.1 rest behind (is.section.each, refl)
    (r.2.each, r.4) in
    (r.3, same.2)

never_both : (n : ℕ) (framing : Framing) → framing ≡ framings.Chunked → framing ≡ framings.Sized n → ⊥
never_both n framing p q = cc

-- ---- of any body

chunked_body : (framing : Framing) (raw body : List ℕ) → framing ≡ framings.Chunked → IsWholeBody framing raw body
    → IsChunkedBody raw body
chunked_body framing raw body is w = subst (λ f. IsWholeBody f raw body) is w

pub remains : (framing : Framing) (stage : Stage) (raw part rest raw_whole body behind after : List ℕ)
    → IsWholeBody framing raw_whole body → after ≡ raw_whole ++ behind → Leads framing raw stage part
    → after ≡ raw ++ rest → Remains stage part rest body behind
remains framing (stages.Rest left) raw part rest raw_whole body behind after whole w l e =
    let sized : IsWholeBody (framings.Sized (length part + left)) raw_whole body =
    subst (λ f. IsWholeBody f raw_whole body) l.0 whole in (
      split_from part rest body behind
          (ap (λ x. x ++ rest) (sym l.1) ∙ sym e ∙ w ∙ ap (λ x. x ++ behind) sized.1) (omega (arith, sized.0)),
      sized.0,
    )
remains framing stages.Line raw part rest raw_whole body behind after whole w l e =
    let chunked = chunked_from after raw_whole body behind (chunked_body framing raw_whole body l.0 whole) w in
    let b = behind_chunks l.1 chunked.0 after body behind rest l.2.each (e ∙ ap (λ x. x ++ rest) l.2.raw_is)
    chunked.1 in
    record {
      chunks = b.chunks;
      tail = b.tail;
      chunked = b.chunked;
      body_is = b.body_is ∙ ap (λ x. x ++ b.tail) (sym l.2.body_is);
    }
remains framing (stages.Data left) raw part rest raw_whole body behind after whole w l e =
    remains_chunk raw part rest raw_whole body behind after left l.1 e
    (chunked_body framing raw_whole body l.0 whole) w
remains framing stages.End raw part rest raw_whole body behind after whole w l e =
    remains_chunk raw part rest raw_whole body behind after 0 l.1 e (chunked_body framing raw_whole body l.0 whole) w
remains framing stages.Trailer raw part rest raw_whole body behind after whole w l e =
    remains_trailer raw part rest raw_whole body behind after l.1 e
    (chunked_body framing raw_whole body l.0 whole) w
remains (framings.Sized n) stages.Done raw part rest raw_whole body behind after whole w l e =
    same_front part body rest behind
    (ap (λ x. x ++ rest) (sym l.1) ∙ sym e ∙ w ∙ ap (λ x. x ++ behind) whole.1) (l.0 ∙ sym whole.0)
remains framings.Chunked stages.Done raw part rest raw_whole body behind after whole w l e =
    remains_done raw part rest raw_whole body behind after l e whole w

-- ---- nothing is wrong with what remains

-- it begins with a chunk line, for whose size there is room
pub record BeginsLine (rest part body : List ℕ) : Type 0 where
  pub line : ChunkLine
  pub more : List ℕ
  pub is_line : IsLine line
  pub whole : rest ≡ print_chunk_line line ++ more
  pub room : length part + chunk_size line ≤ length body

begins_line_in : (part rest body behind : List ℕ) → IsBehind rest behind body part → BeginsLine rest part body
begins_line_in part rest body behind b = by_chunks b.chunks b.chunked
  where
    by_chunks : (ds : List Chunk) → IsChunked rest ds b.tail behind → BeginsLine rest part body
    by_chunks [] is = record {
      line = is.line;
      more = print_section is.fields is.last ++ behind;
      is_line = is.is_line;
      whole = is.bytes_is;
      room = omega (arith, is.size, ap length b.body_is, length-append part b.tail);
    }
    by_chunks (d ∷ ds) is =
        let later : List ℕ = flat_map (λ (chunk : Chunk). chunk.bytes) ds in
        let right : List ℕ =
        flat_map print_chunk ds ++ (print_chunk_line is.line ++ (print_section is.fields is.last ++ behind)) in
        record {
          line = d.line;
          more = d.bytes ++ (crlf_bytes ++ right);
          is_line = is.each.0.line;
          whole = first_chunk rest b.tail behind d ds is ∙ line_first d right;
          room = omega (
            arith,
            is.each.0.size,
            ap length b.body_is,
            length-append part b.tail,
            ap length is.body_is,
            length-append d.bytes later,
          );
        }

-- a front within the limit is in the bytes up to it
pub in_front : (front more : List ℕ) → length front ≤ head_limit
    → take head_limit (front ++ more) ≡ front ++ take (head_limit - length front) more
in_front front more short =
    take_append head_limit front more
    ∙ ap (λ l. l ++ take (head_limit - length front) more) (take_all head_limit front short)

no_bad_line : (part rest body : List ℕ) → BeginsLine rest part body → HasBadLine rest → ⊥
no_bad_line part rest body b (inl f) = f.4 f.1 b.line b.more (b.is_line.form, sym f.2 ∙ b.whole)
no_bad_line part rest body b (inr f) =
    let text : List ℕ = print_chunk_line b.line in
    f.1 b.line (take (head_limit - length text) b.more)
    (b.is_line.form, ap (take head_limit) b.whole ∙ in_front text b.more b.is_line.short)

not_too_much : (part rest body : List ℕ) → BeginsLine rest part body → length body ≤ body_limit → IsTooMuch part rest
    → ⊥
not_too_much part rest body b few f =
    let same = chunk_line_unique rest b.line f.line b.more f.behind (b.is_line.form, b.whole)
    (f.is_line.form, f.whole) in
    absurd (omega (arith, b.room, few, f.over, ap chunk_size same.0))

-- what goes over this many lines is not a front of a text that has no more of them
pub over_text : (text after bytes front : List ℕ) (n lines : ℕ) → bytes ≡ text ++ after
    → GoesOver (take n bytes) front lines → lines_in text ≤ lines → (piece : List ℕ) × (front ≡ text ++ piece)
over_text text after bytes front n lines e o few = by_test (nat_le (length text) (length front)) refl
  where
    whole : front ++ (line_feed ∷ o.later ++ drop n bytes) ≡ text ++ after
    whole =
        sym (append_assoc front (line_feed ∷ o.later) (drop n bytes)) ∙ ap (λ l. l ++ drop n bytes) (sym o.whole)
        ∙ take-append-drop n bytes
        ∙ e

    by_test : (t : Bool) → nat_le (length text) (length front) ≡ t → (piece : List ℕ) × (front ≡ text ++ piece)
    by_test true is_long =
        let fits : length text ≤ length front = grind (arith, nat_tests) in
        let s = split_from text after front (line_feed ∷ o.later ++ drop n bytes) (sym whole) fits in
        (s.piece, s.long_is)
    by_test false is_short =
        let less : length front < length text = grind (arith, nat_tests) in
        let line : List ℕ = front ++ line_feed ∷ [] in
        let fits : length line ≤ length text = omega (arith, less, length-append front (line_feed ∷ [])) in
        let s = split_from line (o.later ++ drop n bytes) text after
        (append_assoc front (line_feed ∷ []) (o.later ++ drop n bytes) ∙ whole) fits in
        absurd (omega (arith, few, o.many, lines_before line s.piece, ap lines_in s.long_is))

-- a section with few lines has no line too many
pub section_not_over : (rest more : List ℕ) (fields : List Field) (last : LineEnd) → IsTrailer fields last
    → rest ≡ print_section fields last ++ more → HasSectionLine (take head_limit rest) → ⊥
section_not_over rest more fields last is e x =
    let text : List ℕ = print_section fields last in
    let longer = over_text text more rest x.front head_limit field_limit e x.over
    (omega (arith, is.few, whole_section_lines fields last is.each)) in
    x.is_front.none fields last longer.0 (is.each, longer.1)

no_bad_section : (rest more : List ℕ) (fields : List Field) (last : LineEnd) → IsTrailer fields last
    → rest ≡ print_section fields last ++ more → HasBadSection rest → ⊥
no_bad_section rest more fields last is e f = f.never f.later fields last more (is.each, sym f.whole ∙ e)

no_large_section : (rest more : List ℕ) (fields : List Field) (last : LineEnd) → IsTrailer fields last
    → rest ≡ print_section fields last ++ more → HasLargeSection rest → ⊥
no_large_section rest more fields last is e (inl f) =
    let text : List ℕ = print_section fields last in
    f.1.none fields last (take (head_limit - length text) more)
    (is.each, ap (take head_limit) e ∙ in_front text more is.short)
no_large_section rest more fields last is e (inr f) = section_not_over rest more fields last is e f

pub no_hit : (at : ℕ) (stage : Stage) (part rest body behind : List ℕ) (fault : RequestFault)
    → Remains stage part rest body behind → length body ≤ body_limit → Hits at stage part rest fault → ⊥
no_hit at (stages.Rest left) part rest body behind fault r few f = f
no_hit at stages.Line part rest body behind fault r few (inl f) =
    no_bad_line part rest body (begins_line_in part rest body behind r) f.1
no_hit at stages.Line part rest body behind fault r few (inr f) =
    not_too_much part rest body (begins_line_in part rest body behind r) few f.1
no_hit at (stages.Data left) part rest body behind fault r few f = f
no_hit at stages.End part rest body behind fault r few f =
    let none : r.missing ≡ [] = nil_from_length r.missing r.size in
    let is : rest ≡ 13 ∷ 10 ∷ r.after = r.rest_is ∙ ap (λ l. l ++ (crlf_bytes ++ r.after)) none in
    (rw is at f.1) refl
no_hit at stages.Trailer part rest body behind fault r few (inl f) = no_bad_section rest behind r.0 r.1 r.2 r.4 f.1
no_hit at stages.Trailer part rest body behind fault r few (inr f) = no_large_section rest behind r.0 r.1 r.2 r.4 f.1
no_hit at stages.Done part rest body behind fault r few f = f

-- ---- and it does not wait

pub no_wait : (stage : Stage) (part rest body behind : List ℕ) → Remains stage part rest body behind
    → Waits stage rest → ⊥
no_wait (stages.Rest left) part rest body behind r f =
    absurd (omega (
      arith,
      f.0,
      ap length f.1,
      ap length r.0.later_is,
      length-append r.0.piece behind,
      r.0.size,
      r.1,
    ))
no_wait stages.Line part rest body behind r f =
    let b = begins_line_in part rest body behind r in
    f.1 b.line b.more (b.is_line.form, b.whole)
no_wait (stages.Data left) part rest body behind r f =
    absurd (omega (
      arith,
      f.0,
      ap length f.1,
      ap length r.rest_is,
      length-append r.missing (crlf_bytes ++ r.after),
      r.size,
    ))
no_wait stages.End part rest body behind r (inl f) =
    absurd (omega (arith, ap length f, ap length r.rest_is, length-append r.missing (crlf_bytes ++ r.after)))
no_wait stages.End part rest body behind r (inr f) =
    absurd (omega (arith, ap length f, ap length r.rest_is, length-append r.missing (crlf_bytes ++ r.after)))
no_wait stages.Trailer part rest body behind r f = f.1.none r.0 r.1 behind (r.2.each, r.4)
no_wait stages.Done part rest body behind r f = f

-- ---- and it does not lack

pub no_lack : (stage : Stage) (part rest body behind : List ℕ) → Remains stage part rest body behind
    → Lacks stage rest → ⊥
no_lack (stages.Rest left) part rest body behind r f =
    absurd (omega (arith, f, ap length r.0.later_is, length-append r.0.piece behind, r.0.size, r.1))
no_lack stages.Line part rest body behind r f =
    let b = begins_line_in part rest body behind r in f b.line b.more b.is_line b.whole
no_lack (stages.Data left) part rest body behind r f =
    absurd (omega (arith, f, ap length r.rest_is, length-append r.missing (crlf_bytes ++ r.after), r.size))
no_lack stages.End part rest body behind r f =
    absurd (omega (
      arith,
      f,
      ap length r.rest_is,
      length-append r.missing (crlf_bytes ++ r.after),
      length-append crlf_bytes r.after,
    ))
no_lack stages.Trailer part rest body behind r f = f r.0 r.1 behind r.2 r.4
no_lack stages.Done part rest body behind r f = f
