-- Bytes have one fault, and where they have one they do not wait for more.
use Rattle.std.proofs.Common.{◌≡◌, ◌⊎◌, ℕ, ◌+◌, ◌-◌, ◌<◌, ◌≤◌, List, [], ◌∷◌, ◌++◌, take, length}
use Rattle.std.proofs.Common.{Ok, Err, Some, None, refl, ap, sym, subst, ◌∙◌, inl, inr, arith, append_assoc, append-nil}
use Rattle.std.proofs.Common.{length-append}
use Rattle.std.specs.Prelude.{Option, Result, flat_map}
use Rattle.std.specs.List.{AllByRecursion}
use Rattle.std.proofs.lemmas.List.{nil_from_length}
use Rattle.httparse.specs.Ascii.{crlf_bytes}
use Rattle.httparse.specs.Grammar.{EndsInTarget, MayBecomeRequest, ReadsRequest, RequestHead, chunk_size}
use Rattle.httparse.specs.Grammar.{print_chunk_line}
use Rattle.httparse.specs.Grammar.{print_request}
use Rattle.httparse.proofs.ChunkLemmas.{chunk_line_unique}
use Rattle.httparse.proofs.GrammarLemmas.{request_unique}
use Rattle.http_said.specs.Fields.{framing_of}
use Rattle.http_said.specs.Limits.{body_limit}
use Rattle.http_said.specs.declared.framing.FieldFault.{FieldFault}
use Rattle.http_said.specs.declared.framing.FieldFault.TheVariants as fields
use Rattle.http_said.specs.declared.framing.Framing.{Framing}
use Rattle.http_said.specs.declared.framing.Framing.TheVariants as framings
use Rattle.http_in.specs.Chunks.{Chunk, HasRoom, IsChunk, Leads, print_chunk}
use Rattle.http_in.specs.Faults.{HasBadHead, HasBodyFault, HasCome, HasFault, HasLargeHead, HasUnframed}
use Rattle.http_in.specs.Faults.{IsInHead, IsInside, place_behind}
use Rattle.http_in.specs.Laws.{FaultsAreOne, FaultsEnd, RequestsAreOne, RequestsAreWhole}
use Rattle.http_in.specs.Limits.{field_limit, head_limit, place}
use Rattle.http_in.specs.Message.{BeginsHead, fields_of}
use Rattle.http_in.specs.Unframed.{request_fault}
use Rattle.http_in.specs.declared.fault.RequestFault.{RequestFault}
use Rattle.http_in.specs.declared.fault.RequestFault.TheVariants as faults
use Rattle.http_in.specs.declared.stage.Stage.{Stage}
use Rattle.http_in.specs.declared.stage.Stage.TheVariants as stages
use Rattle.http_in.proofs.CountLemmas.{in_target, lines_feed}
use Rattle.http_in.proofs.RemainLemmas.{chunk_begun, in_front, line_first, not_chunk, one_chunk, over_text, same_front}
use Rattle.http_in.proofs.StuckLemmas.{InTail, IsChain, LastTail, Stuck, Tail, chain_of, end_goes_on, end_one}
use Rattle.http_in.proofs.StuckLemmas.{few_over, line_goes_on, line_one, never_line, section_one, tail_has_line}
use Rattle.http_in.proofs.UniqueLemmas.{head_not_large, no_fault, not_inside, ok_is}
use Rattle.http_in.proofs.RequestsLemmas.{all_requests_unique}

-- ---- two tails in one place

never_done : (at : ℕ) (body rest : List ℕ) (o : Option RequestFault) → Stuck at stages.Done body rest o → ⊥
never_done at body rest (Some f) x = x
never_done at body rest None x = x

data_waits : (at left : ℕ) (body rest : List ℕ) (o : Option RequestFault) → Stuck at (stages.Data left) body rest o
    → (o ≡ None) × (0 < left) × (rest ≡ [])
data_waits at left body rest (Some f) x = absurd x
data_waits at left body rest None x = (refl, x.0, x.1)

in_same : (t u part other rest rest' : List ℕ) (left left' : ℕ) → InTail t part left → InTail u other left'
    → t ++ rest ≡ u ++ rest'
    → (part ++ rest ≡ other ++ rest') × (length part + left ≡ length other + left')
in_same t u part other rest rest' left left' a b e =
    let one : t ++ rest ≡ print_chunk_line a.line ++ (part ++ rest) =
    ap (λ l. l ++ rest) a.text_is ∙ append_assoc (print_chunk_line a.line) part rest in
    let two : t ++ rest ≡ print_chunk_line b.line ++ (other ++ rest') =
    e ∙ ap (λ l. l ++ rest') b.text_is ∙ append_assoc (print_chunk_line b.line) other rest' in
    let same = chunk_line_unique (t ++ rest) a.line b.line (part ++ rest) (other ++ rest') (a.is_line.form, one)
    (b.is_line.form, two) in
    (same.1, omega (arith, a.size, b.size, ap chunk_size same.0))

in_last : (t u part other behind rest rest' : List ℕ) (left : ℕ) → InTail t part left → LastTail u other behind
    → t ++ rest ≡ u ++ rest' → ⊥
in_last t u part other behind rest rest' left a b e =
    let one : t ++ rest ≡ print_chunk_line a.line ++ (part ++ rest) =
    ap (λ l. l ++ rest) a.text_is ∙ append_assoc (print_chunk_line a.line) part rest in
    let two : t ++ rest ≡ print_chunk_line b.line ++ (behind ++ rest') =
    e ∙ ap (λ l. l ++ rest') b.text_is ∙ append_assoc (print_chunk_line b.line) behind rest' in
    let same = chunk_line_unique (t ++ rest) a.line b.line (part ++ rest) (behind ++ rest') (a.is_line.form, one)
    (b.is_line.form, two) in
    absurd (omega (arith, a.size, a.some, b.size, ap chunk_size same.0))

last_same : (t u part other rest rest' : List ℕ) → LastTail t part [] → LastTail u other [] → t ++ rest ≡ u ++ rest'
    → rest ≡ rest'
last_same t u part other rest rest' a b e =
    let one : t ++ rest ≡ print_chunk_line a.line ++ rest =
    ap (λ l. l ++ rest) (a.text_is ∙ append-nil (print_chunk_line a.line)) in
    let two : t ++ rest ≡ print_chunk_line b.line ++ rest' =
    e ∙ ap (λ l. l ++ rest') (b.text_is ∙ append-nil (print_chunk_line b.line)) in
    (chunk_line_unique (t ++ rest) a.line b.line rest rest' (a.is_line.form, one) (b.is_line.form, two)).1

-- a stage after whole chunks: where it is, and that what it has and what it wants has room
pub record IsAt (base before at : ℕ) (stage : Stage) (text part body : List ℕ) : Type 0 where
  pub tail : Tail stage text part
  pub size : length body ≡ before + length part
  pub room : HasRoom stage body
  pub at_is : at ≡ place (base + length text)

-- fronts of one list before what is one are as long
as_long : (t u rest rest' : List ℕ) → t ++ rest ≡ u ++ rest' → rest ≡ rest' → length t ≡ length u
as_long t u rest rest' e same =
    omega (arith, ap length e, ap length same, length-append t rest, length-append u rest')

same_place : (base before at other : ℕ) (stage stage' : Stage) (t u part part' body body' : List ℕ)
    → IsAt base before at stage t part body → IsAt base before other stage' u part' body' → length t ≡ length u
    → at ≡ other
same_place base before at other stage stage' t u part part' body body' a b same =
    a.at_is ∙ ap (λ n. place (base + n)) same ∙ sym b.at_is

tails_one : (base before at other : ℕ) (stage stage' : Stage) (t u part part' body body' rest rest' : List ℕ)
    (o p : Option RequestFault) → IsAt base before at stage t part body → IsAt base before other stage' u part' body'
    → t ++ rest ≡ u ++ rest' → Stuck at stage body rest o → Stuck other stage' body' rest' p → o ≡ p
tails_one base before at other (stages.Rest n) stage' t u part part' body body' rest rest' o p a b e x y = absurd a.tail
tails_one base before at other stages.Line (stages.Rest n) t u part part' body body' rest rest' o p a b e x y =
    absurd b.tail
tails_one base before at other stages.Line stages.Line t u part part' body body' rest rest' o p a b e x y =
    let same : rest ≡ rest' = ap (λ l. l ++ rest) (sym a.tail.0) ∙ e ∙ ap (λ l. l ++ rest') b.tail.0 in
    let place_is = same_place base before at other stages.Line stages.Line t u part part' body body' a b
    (as_long t u rest rest' e same) in
    line_one other body body' rest' o p
    (subst (λ l. Stuck other stages.Line body l o) same (subst (λ n. Stuck n stages.Line body rest o) place_is x)) y
tails_one base before at other stages.Line (stages.Data n) t u part part' body body' rest rest' o p a b e x y =
    absurd (never_line at before t part body rest (u ++ rest') o a.tail x a.size e
    (tail_has_line (stages.Data n) u part' body' rest' before (λ e. cc) b.tail b.size b.room))
tails_one base before at other stages.Line stages.End t u part part' body body' rest rest' o p a b e x y =
    absurd (never_line at before t part body rest (u ++ rest') o a.tail x a.size e
    (tail_has_line stages.End u part' body' rest' before (λ e. cc) b.tail b.size b.room))
tails_one base before at other stages.Line stages.Trailer t u part part' body body' rest rest' o p a b e x y =
    absurd (never_line at before t part body rest (u ++ rest') o a.tail x a.size e
    (tail_has_line stages.Trailer u part' body' rest' before (λ e. cc) b.tail b.size b.room))
tails_one base before at other stage stages.Done t u part part' body body' rest rest' o p a b e x y =
    absurd (never_done other body' rest' p y)
tails_one base before at other (stages.Data n) (stages.Rest m) t u part part' body body' rest rest' o p a b e x y =
    absurd b.tail
tails_one base before at other (stages.Data n) stages.Line t u part part' body body' rest rest' o p a b e x y =
    absurd (never_line other before u part' body' rest' (t ++ rest) p b.tail y b.size (sym e)
    (tail_has_line (stages.Data n) t part body rest before (λ e. cc) a.tail a.size a.room))
tails_one base before at other (stages.Data n) (stages.Data m) t u part part' body body' rest rest' o p a b e x y =
    (data_waits at n body rest o x).0 ∙ sym (data_waits other m body' rest' p y).0
tails_one base before at other (stages.Data n) stages.End t u part part' body body' rest rest' o p a b e x y =
    let w = data_waits at n body rest o x in
    let same = in_same t u part part' rest rest' n 0 a.tail b.tail e in
    absurd (omega (
      arith,
      w.1,
      same.1,
      ap length w.2,
      ap length same.0,
      length-append part rest,
      length-append part' rest',
    ))
tails_one base before at other (stages.Data n) stages.Trailer t u part part' body body' rest rest' o p a b e x y =
    absurd (in_last t u part part' [] rest rest' n a.tail b.tail e)
tails_one base before at other stages.End (stages.Rest m) t u part part' body body' rest rest' o p a b e x y =
    absurd b.tail
tails_one base before at other stages.End stages.Line t u part part' body body' rest rest' o p a b e x y =
    absurd (never_line other before u part' body' rest' (t ++ rest) p b.tail y b.size (sym e)
    (tail_has_line stages.End t part body rest before (λ e. cc) a.tail a.size a.room))
tails_one base before at other stages.End (stages.Data m) t u part part' body body' rest rest' o p a b e x y =
    let w = data_waits other m body' rest' p y in
    let same = in_same t u part part' rest rest' 0 m a.tail b.tail e in
    absurd (omega (
      arith,
      w.1,
      same.1,
      ap length w.2,
      ap length same.0,
      length-append part rest,
      length-append part' rest',
    ))
tails_one base before at other stages.End stages.End t u part part' body body' rest rest' o p a b e x y =
    let same = in_same t u part part' rest rest' 0 0 a.tail b.tail e in
    let one = same_front part part' rest rest' same.0 (omega (arith, same.1)) in
    let place_is = same_place base before at other stages.End stages.End t u part part' body body' a b
    (as_long t u rest rest' e one.1) in
    end_one other body body' rest' o p
    (subst (λ l. Stuck other stages.End body l o) one.1 (subst (λ n. Stuck n stages.End body rest o) place_is x)) y
tails_one base before at other stages.End stages.Trailer t u part part' body body' rest rest' o p a b e x y =
    absurd (in_last t u part part' [] rest rest' 0 a.tail b.tail e)
tails_one base before at other stages.Trailer (stages.Rest m) t u part part' body body' rest rest' o p a b e x y =
    absurd b.tail
tails_one base before at other stages.Trailer stages.Line t u part part' body body' rest rest' o p a b e x y =
    absurd (never_line other before u part' body' rest' (t ++ rest) p b.tail y b.size (sym e)
    (tail_has_line stages.Trailer t part body rest before (λ e. cc) a.tail a.size a.room))
tails_one base before at other stages.Trailer (stages.Data m) t u part part' body body' rest rest' o p a b e x y =
    absurd (in_last u t part' part [] rest' rest m b.tail a.tail (sym e))
tails_one base before at other stages.Trailer stages.End t u part part' body body' rest rest' o p a b e x y =
    absurd (in_last u t part' part [] rest' rest 0 b.tail a.tail (sym e))
tails_one base before at other stages.Trailer stages.Trailer t u part part' body body' rest rest' o p a b e x y =
    let same = last_same t u part part' rest rest' a.tail b.tail e in
    let place_is = same_place base before at other stages.Trailer stages.Trailer t u part part' body body' a b
    (as_long t u rest rest' e same) in
    section_one other body body' rest' o p
    (subst (λ l. Stuck other stages.Trailer body l o) same
    (subst (λ n. Stuck n stages.Trailer body rest o) place_is x)) y
tails_one base before at other stages.Done stage' t u part part' body body' rest rest' o p a b e x y =
    absurd (never_done at body rest o x)

-- ---- a tail, and a chunk in its place

tail_chunk : (before at : ℕ) (stage : Stage) (t part body rest right : List ℕ) (d : Chunk) (o : Option RequestFault)
    → Tail stage t part → length body ≡ before + length part → IsChunk d → before + length d.bytes ≤ body_limit
    → t ++ rest ≡ print_chunk d ++ right → Stuck at stage body rest o → ⊥
tail_chunk before at (stages.Rest n) t part body rest right d o tail size is room e x = absurd tail
tail_chunk before at stages.Line t part body rest right d o tail size is room e x =
    line_goes_on at body rest o d.line (d.bytes ++ (crlf_bytes ++ right)) x is.line
    (ap (λ l. l ++ rest) (sym tail.0) ∙ e ∙ line_first d right)
    (omega (arith, size, ap length tail.1, is.size, room))
tail_chunk before at (stages.Data n) t part body rest right d o tail size is room e x =
    let w = data_waits at n body rest o x in
    let b = chunk_begun tail.line part rest right n d tail.is_line tail.size is
    (sym (append_assoc (print_chunk_line tail.line) part rest) ∙ ap (λ l. l ++ rest) (sym tail.text_is) ∙ e) in
    absurd (omega (
      arith,
      w.1,
      b.1,
      ap length w.2,
      ap length b.0.later_is,
      length-append b.0.piece (crlf_bytes ++ right),
    ))
tail_chunk before at stages.End t part body rest right d o tail size is room e x =
    let b = chunk_begun tail.line part rest right 0 d tail.is_line tail.size is
    (sym (append_assoc (print_chunk_line tail.line) part rest) ∙ ap (λ l. l ++ rest) (sym tail.text_is) ∙ e) in
    let none : b.0.piece ≡ [] = nil_from_length b.0.piece b.1 in
    end_goes_on at body rest right o x (b.0.later_is ∙ ap (λ l. l ++ (crlf_bytes ++ right)) none)
tail_chunk before at stages.Trailer t part body rest right d o tail size is room e x =
    not_chunk tail.line rest right d tail.is_line tail.size is
    (ap (λ l. l ++ rest) (sym (tail.text_is ∙ append-nil (print_chunk_line tail.line))) ∙ e)
tail_chunk before at stages.Done t part body rest right d o tail size is room e x = never_done at body rest o x

-- ---- after chunks

room_len : (stage : Stage) (body : List ℕ) → HasRoom stage body → length body ≤ body_limit
room_len (stages.Rest n) body room = omega (arith, room)
room_len stages.Line body room = room
room_len (stages.Data n) body room = omega (arith, room.1)
room_len stages.End body room = room
room_len stages.Trailer body room = room
room_len stages.Done body room = room

raw_of : List Chunk → List ℕ
raw_of chunks = flat_map print_chunk chunks

data_in : List Chunk → List ℕ
data_in chunks = flat_map (λ (chunk : Chunk). chunk.bytes) chunks

-- a stage after chunks that follow this much
pub record IsFar (base before at : ℕ) (chunks : List Chunk) (stage : Stage) (text part body : List ℕ) : Type 0 where
  pub each : AllByRecursion IsChunk chunks
  pub tail : Tail stage text part
  pub size : length body ≡ before + (length (flat_map (λ (chunk : Chunk). chunk.bytes) chunks) + length part)
  pub room : HasRoom stage body
  pub at_is : at ≡ place (base + (length (flat_map print_chunk chunks) + length text))

near : (base before at : ℕ) (stage : Stage) (text part body : List ℕ) → IsFar base before at [] stage text part body
    → IsAt base before at stage text part body
near base before at stage text part body f =
    record { tail = f.tail; size = omega (arith, f.size); room = f.room; at_is = f.at_is ∙ ap place (omega arith) }

-- after the first chunk
further : (base before at : ℕ) (c : Chunk) (cs : List Chunk) (stage : Stage) (text part body : List ℕ) (n m : ℕ)
    → n ≡ length (print_chunk c) → m ≡ length c.bytes → IsFar base before at (c ∷ cs) stage text part body
    → IsFar (base + n) (before + m) at cs stage text part body
further base before at c cs stage text part body n m n_is m_is f = record {
  each = f.each.1;
  tail = f.tail;
  size = omega (
    arith,
    f.size,
    m_is,
    length-append c.bytes (flat_map (λ (chunk : Chunk). chunk.bytes) cs),
  );
  room = f.room;
  at_is = f.at_is ∙ ap place
      (let e : base + (length (print_chunk c ++ flat_map print_chunk cs) + length text)
      ≡ base + n + (length (flat_map print_chunk cs) + length text) = omega
      (arith, n_is, length-append (print_chunk c) (flat_map print_chunk cs)) in e);
}

before_chunk : (base before at other : ℕ) (stage stage' : Stage) (d : Chunk) (ds : List Chunk)
    (t u part part' body body' rest rest' : List ℕ) (o : Option RequestFault)
    → IsFar base before at [] stage t part body → IsFar base before other (d ∷ ds) stage' u part' body'
    → t ++ rest ≡ flat_map print_chunk (d ∷ ds) ++ (u ++ rest') → Stuck at stage body rest o → ⊥
before_chunk base before at other stage stage' d ds t u part part' body body' rest rest' o a b e x =
    tail_chunk before at stage t part body rest (flat_map print_chunk ds ++ (u ++ rest')) d o a.tail
    (omega (arith, a.size)) b.each.0
    (omega (
      arith,
      b.size,
      room_len stage' body' b.room,
      length-append d.bytes (flat_map (λ (chunk : Chunk). chunk.bytes) ds),
    ))
    (e ∙ append_assoc (print_chunk d) (flat_map print_chunk ds) (u ++ rest')) x

chains_one : (cs ds : List Chunk) (base before at other : ℕ) (stage stage' : Stage)
    (t u part part' body body' rest rest' : List ℕ) (o p : Option RequestFault)
    → IsFar base before at cs stage t part body → IsFar base before other ds stage' u part' body'
    → flat_map print_chunk cs ++ (t ++ rest) ≡ flat_map print_chunk ds ++ (u ++ rest')
    → Stuck at stage body rest o → Stuck other stage' body' rest' p → o ≡ p
chains_one [] [] base before at other stage stage' t u part part' body body' rest rest' o p a b e x y =
    tails_one base before at other stage stage' t u part part' body body' rest rest' o p
    (near base before at stage t part body a) (near base before other stage' u part' body' b) e x y
chains_one [] (d ∷ ds) base before at other stage stage' t u part part' body body' rest rest' o p a b e x y =
    absurd (before_chunk base before at other stage stage' d ds t u part part' body body' rest rest' o a b e x)
chains_one (c ∷ cs) [] base before at other stage stage' t u part part' body body' rest rest' o p a b e x y =
    absurd
    (before_chunk base before other at stage' stage c cs u t part' part body' body rest' rest p b a (sym e) y)
chains_one (c ∷ cs) (d ∷ ds) base before at other stage stage' t u part part' body body' rest rest' o p a b e x y =
    let left : List ℕ = flat_map print_chunk cs ++ (t ++ rest) in
    let right : List ℕ = flat_map print_chunk ds ++ (u ++ rest') in
    let both : print_chunk c ++ left ≡ print_chunk d ++ right =
    sym (append_assoc (print_chunk c) (flat_map print_chunk cs) (t ++ rest)) ∙ e
    ∙ append_assoc (print_chunk d) (flat_map print_chunk ds) (u ++ rest') in
    let same = one_chunk c d left right a.each.0 b.each.0 both in
    let long = as_long (print_chunk c) (print_chunk d) left right both same.1 in
    chains_one cs ds (base + length (print_chunk c)) (before + length c.bytes) at other stage stage' t u part part' body
    body' rest rest' o p
    (further base before at c cs stage t part body (length (print_chunk c)) (length c.bytes) refl refl a)
    (further base before other d ds stage' u part' body' (length (print_chunk c)) (length c.bytes) long
    (ap length (sym same.0)) b)
    same.1 x y

-- ---- bodies

sized_waits : (framing : Framing) (n : ℕ) (raw : List ℕ) (stage : Stage) (body : List ℕ) (at : ℕ) (rest : List ℕ)
    (o : Option RequestFault) → framing ≡ framings.Sized n → Leads framing raw stage body → Stuck at stage body rest o
    → o ≡ None
sized_waits framing n raw (stages.Rest left) body at rest (Some f) is l x = absurd x
sized_waits framing n raw (stages.Rest left) body at rest None is l x = refl
sized_waits framing n raw stages.Line body at rest o is l x = absurd (not_both framing n is l.0)
  where
    not_both : (framing : Framing) (n : ℕ) → framing ≡ framings.Sized n → framing ≡ framings.Chunked → ⊥
    not_both framing n p q = cc
sized_waits framing n raw (stages.Data left) body at rest (Some f) is l x = absurd x
sized_waits framing n raw (stages.Data left) body at rest None is l x = refl
sized_waits framing n raw stages.End body at rest o is l x = absurd (not_both framing n is l.0)
  where
    not_both : (framing : Framing) (n : ℕ) → framing ≡ framings.Sized n → framing ≡ framings.Chunked → ⊥
    not_both framing n p q = cc
sized_waits framing n raw stages.Trailer body at rest o is l x = absurd (not_both framing n is l.0)
  where
    not_both : (framing : Framing) (n : ℕ) → framing ≡ framings.Sized n → framing ≡ framings.Chunked → ⊥
    not_both framing n p q = cc
sized_waits framing n raw stages.Done body at rest o is l x = absurd (never_done at body rest o x)

far_of : (framing : Framing) (start : ℕ) (raw : List ℕ) (stage : Stage) (body : List ℕ) → HasRoom stage body
    → (c : IsChain stage raw body) → IsFar start 0 (place (start + length raw)) c.chunks stage c.text c.part body
far_of framing start raw stage body room c = record {
  each = c.each;
  tail = c.tail;
  size = omega (
    arith,
    ap length c.body_is,
    length-append (flat_map (λ (chunk : Chunk). chunk.bytes) c.chunks) c.part,
  );
  room = room;
  at_is = ap place
      (let e : start + length raw ≡ start + (length (flat_map print_chunk c.chunks) + length c.text) = omega
      (arith, ap length c.raw_is, length-append (flat_map print_chunk c.chunks) c.text) in e);
}

pub bodies_one : (start : ℕ) (bytes : List ℕ) (a b : HasCome bytes) (o p : Option RequestFault)
    → Stuck (place_behind start a) a.stage a.body a.rest o → Stuck (place_behind start b) b.stage b.body b.rest p
    → o ≡ p
bodies_one start bytes a b o p x y = by_framing b.framing refl
  where
    heads : (a.head ≡ b.head) × (a.after ≡ b.after)
    heads = request_unique bytes a.head b.head a.after b.after a.begins.reads b.begins.reads

    same : a.framing ≡ b.framing
    same = ok_is (framing_of (fields_of b.head)) a.framing b.framing
        (ap (λ (h : RequestHead). framing_of (fields_of h)) (sym heads.0) ∙ a.framed) b.framed

    base : ℕ
    base = start + length (print_request a.head)

    y_here : Stuck (place (base + length b.raw)) b.stage b.body b.rest p
    y_here = subst (λ (h : RequestHead). Stuck (place (start + length (print_request h) + length b.raw)) b.stage b.body
        b.rest p) (sym heads.0) y

    by_framing : (f : Framing) → b.framing ≡ f → o ≡ p
    by_framing (framings.Sized n) is =
        sized_waits a.framing n a.raw a.stage a.body (place_behind start a) a.rest o (same ∙ is) a.leads x
        ∙ sym (sized_waits b.framing n b.raw b.stage b.body (place_behind start b) b.rest p is b.leads y)
    by_framing framings.Chunked is =
        let c = chain_of a.framing a.raw a.stage a.body (same ∙ is) a.leads in
        let d = chain_of b.framing b.raw b.stage b.body is b.leads in
        let whole : flat_map print_chunk c.chunks ++ (c.text ++ a.rest)
        ≡ flat_map print_chunk d.chunks ++ (d.text ++ b.rest)
        =
        sym (append_assoc (flat_map print_chunk c.chunks) c.text a.rest) ∙ ap (λ l. l ++ a.rest) (sym c.raw_is)
        ∙ sym a.follows ∙ heads.1 ∙ b.follows ∙ ap (λ l. l ++ b.rest) d.raw_is
        ∙ append_assoc (flat_map print_chunk d.chunks) d.text b.rest in
        chains_one c.chunks d.chunks base 0 (place (base + length a.raw)) (place (base + length b.raw)) a.stage b.stage
        c.text d.text c.part d.part a.body b.body a.rest b.rest o p (far_of a.framing base a.raw a.stage a.body
        a.room c)
        (far_of b.framing base b.raw b.stage b.body b.room d) whole x y_here

-- ---- heads

-- what goes on after a front that never becomes a head becomes one at most where it ends inside a target
head_behind : (bytes front piece : List ℕ) → (f : HasBadHead bytes) → front ≡ f.front ++ piece
    → MayBecomeRequest front → EndsInTarget front
head_behind bytes front piece f e (inr may) = may
head_behind bytes front piece f e (inl may) =
    absurd (f.never (piece ++ may.0) may.1 []
    (may.2.0, sym (append_assoc f.front piece may.0) ∙ ap (λ l. l ++ may.0) (sym e) ∙ may.2.1))

bad_large_head : (bytes : List ℕ) → HasBadHead bytes → HasLargeHead bytes → EndsInTarget (take head_limit bytes)
bad_large_head bytes f (inl x) =
    head_behind bytes (take head_limit bytes) (take (head_limit - length f.front) f.later) f
    (ap (take head_limit) f.whole ∙ in_front f.front f.later f.short) x.1.may
bad_large_head bytes f (inr x) =
    let longer = over_text f.front f.later bytes x.front head_limit (field_limit + 1) f.whole x.over f.few in
    let none = in_target x.front (head_behind bytes x.front longer.0 f longer.1 x.is_front.may) in
    absurd (omega (arith, none, x.over.many, lines_feed x.front))

bad_not_head : (bytes after : List ℕ) (head : RequestHead) → BeginsHead bytes head after → HasBadHead bytes → ⊥
bad_not_head bytes after head b f = f.never f.later head after (subst (λ l. ReadsRequest l head after) f.whole b.reads)

-- ---- why the request is missing

-- what is wrong with the head of a request, or with its body
pub Why : ℕ → List ℕ → RequestFault → Type 0
Why start bytes fault =
    (((fault ≡ faults.BadHead (place start)) × HasBadHead bytes) ⊎ ((fault ≡ faults.HeadLarge) × HasLargeHead bytes))
    ⊎ (((of : FieldFault) × (fault ≡ request_fault of) × HasUnframed bytes of) ⊎ HasBodyFault start bytes fault)

why : (start : ℕ) (bytes : List ℕ) (fault : RequestFault) → HasFault start bytes fault → Why start bytes fault
unfolding Why
why start bytes faults.SourceFault f = absurd f
why start bytes (faults.BadHead at) f = inl (inl (ap (λ n. faults.BadHead n) f.0, f.1))
why start bytes (faults.Cut at) f = absurd f
why start bytes faults.HeadLarge (inl f) = inl (inr (refl, f))
why start bytes faults.HeadLarge (inr f) = inr (inr f)
why start bytes faults.BodyLarge (inl f) = inr (inl (fields.BodyLarge, refl, f))
why start bytes faults.BodyLarge (inr f) = inr (inr f)
why start bytes faults.BadLength f = inr (inl (fields.BadLength, refl, f))
why start bytes (faults.BadChunk at) f = inr (inr f)
why start bytes faults.Coding f = inr (inl (fields.Coding, refl, f))
why start bytes faults.Memory f = absurd f

-- the bytes begin with a head, whose fields are at fault or not
pub record HasHead (bytes : List ℕ) : Type 0 where
  pub head : RequestHead
  pub after : List ℕ
  pub begins : BeginsHead bytes head after

head_of_why : (start : ℕ) (bytes : List ℕ) (fault : RequestFault)
    → ((of : FieldFault) × (fault ≡ request_fault of) × HasUnframed bytes of) ⊎ HasBodyFault start bytes fault
    → HasHead bytes
head_of_why start bytes fault (inl f) = record { head = f.2.head; after = f.2.after; begins = f.2.begins }
head_of_why start bytes fault (inr f) =
    record { head = f.come.head; after = f.come.after; begins = f.come.begins }

-- a head at fault is not a head
never_head : (start : ℕ) (bytes : List ℕ) (fault : RequestFault)
    → ((fault ≡ faults.BadHead (place start)) × HasBadHead bytes) ⊎ ((fault ≡ faults.HeadLarge) × HasLargeHead bytes)
    → HasHead bytes → ⊥
never_head start bytes fault (inl f) h = bad_not_head bytes h.after h.head h.begins f.1
never_head start bytes fault (inr f) h = head_not_large bytes h.after h.head h.begins f.1

err_is : {A E : Type 0} (r : Result A E) (x y : E) → r ≡ Err x → r ≡ Err y → x ≡ y
err_is r x y p q = cc

both : {A E : Type 0} (r : Result A E) (x : A) (y : E) → r ≡ Ok x → r ≡ Err y → ⊥
both r x y p q = cc

unframed_one : (bytes : List ℕ) (f g : FieldFault) → HasUnframed bytes f → HasUnframed bytes g → f ≡ g
unframed_one bytes f g x y =
    let heads = request_unique bytes x.head y.head x.after y.after x.begins.reads y.begins.reads in
    err_is (framing_of (fields_of y.head)) f g
    (ap (λ (h : RequestHead). framing_of (fields_of h)) (sym heads.0) ∙ x.unframed) y.unframed

unframed_not_come : (bytes : List ℕ) (f : FieldFault) → HasUnframed bytes f → HasCome bytes → ⊥
unframed_not_come bytes f x c =
    let heads = request_unique bytes x.head c.head x.after c.after x.begins.reads c.begins.reads in
    both (framing_of (fields_of c.head)) c.framing f c.framed
    (ap (λ (h : RequestHead). framing_of (fields_of h)) (sym heads.0) ∙ x.unframed)

some_is : (f g : RequestFault) → Some f ≡ Some g → f ≡ g
some_is f g e = cc

one_why : (start : ℕ) (bytes : List ℕ) (f g : RequestFault) → Why start bytes f → Why start bytes g
    → (f ≡ g) ⊎ EndsInTarget (take head_limit bytes)
unfolding Why
one_why start bytes f g (inl (inl x)) (inl (inl y)) = inl (x.0 ∙ sym y.0)
one_why start bytes f g (inl (inl x)) (inl (inr y)) = inr (bad_large_head bytes x.1 y.1)
one_why start bytes f g (inl (inr x)) (inl (inl y)) = inr (bad_large_head bytes y.1 x.1)
one_why start bytes f g (inl (inr x)) (inl (inr y)) = inl (x.0 ∙ sym y.0)
one_why start bytes f g (inl x) (inr y) = absurd (never_head start bytes f x (head_of_why start bytes g y))
one_why start bytes f g (inr x) (inl y) = absurd (never_head start bytes g y (head_of_why start bytes f x))
one_why start bytes f g (inr (inl x)) (inr (inl y)) =
    inl (x.1 ∙ ap request_fault (unframed_one bytes x.0 y.0 x.2 y.2) ∙ sym y.1)
one_why start bytes f g (inr (inl x)) (inr (inr y)) = absurd (unframed_not_come bytes x.0 x.2 y.come)
one_why start bytes f g (inr (inr x)) (inr (inl y)) = absurd (unframed_not_come bytes y.0 y.2 x.come)
one_why start bytes f g (inr (inr x)) (inr (inr y)) =
    inl (some_is f g (bodies_one start bytes x.come y.come (Some f) (Some g) x.hits y.hits))

pub faults_one : FaultsAreOne
faults_one = λ start bytes f g x y. one_why start bytes f g (why start bytes f x) (why start bytes g y)

-- ---- a fault, and a request that is not whole

head_waits : (bytes : List ℕ) → HasHead bytes → IsInHead bytes → ⊥
head_waits bytes h w = w.1.none h.head h.after h.begins.reads

never_some : (f : RequestFault) → Some f ≡ None → ⊥
never_some f e = cc

why_ends : (start : ℕ) (bytes : List ℕ) (f : RequestFault) → Why start bytes f → IsInside bytes → EndsInTarget bytes
unfolding Why
why_ends start bytes f (inl (inl x)) (inl w) = head_behind bytes bytes x.1.later x.1 x.1.whole w.1.may
why_ends start bytes f (inl (inr x)) (inl w) = absurd (large_ends x.1)
  where
    large_ends : HasLargeHead bytes → ⊥
    large_ends (inl y) = absurd (omega (arith, y.0, w.0))
    large_ends (inr y) = few_over bytes y.front head_limit (field_limit + 1) w.1.few y.over
why_ends start bytes f (inr x) (inl w) = absurd (head_waits bytes (head_of_why start bytes f x) w)
why_ends start bytes f (inl x) (inr w) =
    absurd (never_head start bytes f x
    (record { head = w.come.head; after = w.come.after; begins = w.come.begins }))
why_ends start bytes f (inr (inl x)) (inr w) = absurd (unframed_not_come bytes x.0 x.2 w.come)
why_ends start bytes f (inr (inr x)) (inr w) =
    absurd (never_some f (bodies_one start bytes x.come w.come (Some f) None x.hits w.waits))

pub faults_end : FaultsEnd
faults_end = λ start bytes f x w. why_ends start bytes f (why start bytes f x) w

pub requests_whole : RequestsAreWhole
requests_whole = λ start bytes rest asked fault b.
    (λ f. no_fault start bytes rest asked fault b f, λ w. not_inside bytes rest asked b w)

pub requests_one : RequestsAreOne
requests_one = all_requests_unique
