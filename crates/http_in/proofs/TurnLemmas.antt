-- One request, from its head and its body.
use Rattle.std.proofs.Common.{◌≡◌, ℕ, ◌≤◌, List, [], ◌++◌, take, drop, length, Some, None, refl, ap, sym, subst}
use Rattle.std.proofs.Common.{◌∙◌}
use Rattle.std.proofs.Common.{◌+◌, arith, append_assoc, append-nil, inl, inr}
use Rattle.std.specs.Prelude.{Option, IsSome}
use Rattle.std.proofs.lemmas.List.{take-append-drop, length-take, length-drop, take_at, nil_from_length}
use Rattle.vl_io.specs.Bytes.{AddsPiece, Consumes}
use Rattle.vl_io.proofs.Laws.{Consumes-trans}
use Rattle.httparse.specs.Grammar.{print_request}
use Rattle.httparse.specs.Spans.{IsWithin, span_bytes}
use Rattle.httparse.specs.declared.spans.Span.{Span}
use Rattle.http_in.specs.Chunks.{HasRoom}
use Rattle.http_in.specs.Head.{ExplainsHead, IsHeadAt}
use Rattle.http_in.specs.Lacks.{AddsIf, AsksIf, LacksBody, LacksHead, MovesIf}
use Rattle.http_in.specs.Message.{BeginsHead}
use Rattle.http_in.specs.Progress.{Moves, Progress, Stops, progress_of}
use Rattle.http_in.specs.Reading.{FindsFault, FindsNone, Holds, HoldsRequest, HoldsSo, IsBegun, IsFirst}
use Rattle.http_in.specs.Reading.{held_by}
use Rattle.http_in.specs.declared.body.Body.{Body}
use Rattle.http_in.specs.declared.fault.RequestFault.{RequestFault}
use Rattle.http_in.specs.declared.fault.RequestFault.TheVariants as faults
use Rattle.http_in.specs.declared.head.Head.{Head}
use Rattle.http_said.specs.declared.framing.Framing.{Framing}
use Rattle.http_said.specs.declared.framing.Framing.TheVariants as framings
use Rattle.http_in.specs.declared.stage.Stage.{Stage}
use Rattle.http_in.specs.declared.turn.Begun.{Begun}
use Rattle.http_in.proofs.HeadLemmas.{span_more}
use Rattle.http_in.proofs.ReadingLemmas.{begins_head, head_explained, held_stops, holds_added}
use Rattle.http_in.proofs.ReadingLemmas.{holds_moved}
use Rattle.http_in.proofs.RemainLemmas.{no_lack}
use Rattle.http_in.proofs.UniqueLemmas.{remains_at}

-- ---- a head is read

front_of : (n : ℕ) (bytes text rest : List ℕ) → bytes ≡ text ++ rest → n ≡ length text → take n bytes ≡ text
front_of n bytes text rest e is = ap (take n) e ∙ ap (λ k. take k (text ++ rest)) is ∙ take_at text rest
    (length text) refl

span_alone : (bytes : List ℕ) (len : ℕ) (span : Span) → IsWithin len span → len ≤ length bytes
    → span_bytes (take len bytes) span ≡ span_bytes bytes span
span_alone bytes len span within fits =
    sym (span_more (take len bytes) (drop len bytes) len span within (omega (arith, length-take len bytes, fits)))
    ∙ ap (λ l. span_bytes l span) (take-append-drop len bytes)

pub head_alone : (bytes : List ℕ) (at : Head) → IsHeadAt bytes at → IsHeadAt (take at.len bytes) at
head_alone bytes at h =
    let text : List ℕ = print_request h.head in
    let front : take at.len bytes ≡ text = front_of at.len bytes text (drop at.len bytes) h.reads.1 h.len in
    let rest : drop at.len (take at.len bytes) ≡ [] =
    nil_from_length (drop at.len (take at.len bytes))
    (omega (arith, length-drop at.len (take at.len bytes), length-take at.len bytes)) in
    record {
      head = h.head;
      reads = (h.reads.0, front ∙ sym (append-nil text) ∙ ap (λ l. text ++ l) (sym rest));
      len = h.len;
      fits = omega (arith, length-take at.len bytes, h.fits);
      limit = h.limit;
      few = h.few;
      method_within = h.method_within;
      target_within = h.target_within;
      method = span_alone bytes at.len at.method h.method_within h.fits ∙ h.method;
      target = span_alone bytes at.len at.target h.target_within h.fits ∙ h.target;
      framed = h.framed;
      within = h.within;
      form = h.form;
      last = h.last;
    }

pub room_first : (framing : Framing) (stage : Stage) (body : List ℕ) → IsFirst framing stage → body ≡ []
    → HasRoom stage body
room_first (framings.Sized n) stage body is none =
    subst (λ s. HasRoom s body) (sym is.0) (omega (arith, is.1, ap length none))
room_first framings.Chunked stage body is none = subst (λ s. HasRoom s body) (sym is) (omega (arith, ap length none))

-- ---- before a head is read

pub head_added : (start : ℕ) (bytes piece : List ℕ) (begun : Begun) (body : Body) (old new : List ℕ) → begun.head ≡ None
    → new ≡ old ++ piece → Holds start bytes (held_by begun body old) → Holds start (bytes ++ piece)
    (held_by begun body new)
head_added start bytes piece begun body old new none e h =
    holds_added start bytes piece (held_by begun body old) (held_by begun body new) none none refl e h

-- the bytes are those that are ahead
all_ahead : (start : ℕ) (bytes piece : List ℕ) (begun : Begun) (body : Body) (old new : List ℕ) → begun.head ≡ None
    → new ≡ old ++ piece → Holds start bytes (held_by begun body old) → new ≡ bytes ++ piece
all_ahead start bytes piece begun body old new none e h =
    let same : bytes ≡ old = subst (λ x. HoldsSo start bytes x begun.bytes.items (progress_of body old)) none h.so in
    e ∙ ap (λ l. l ++ piece) (sym same)

pub head_fault : (a b : Option (List ℕ)) (begun : Begun) (body : Body) (old new : List ℕ) (ended : Type 0)
    (fault : RequestFault) → begun.head ≡ None → AddsPiece a b old new → ExplainsHead body.start new ended fault
    → (piece : List ℕ) × Consumes a b piece × ((start : ℕ) (bytes : List ℕ) → Holds start bytes (held_by begun body old)
    → FindsFault start (bytes ++ piece) ended (held_by begun body new) fault)
head_fault a b begun body old new ended fault none p x = (
  p.0,
  p.1,
  λ start bytes h. record {
    explained = head_explained start (bytes ++ p.0) body.start ended fault h.start_is
        (subst (λ l. ExplainsHead body.start l ended fault)
        (all_ahead start bytes p.0 begun body old new none p.2 h) x);
    keeps = λ _. head_added start bytes p.0 begun body old new none p.2 h;
  },
)

pub head_none : (a b : Option (List ℕ)) (begun : Begun) (body : Body) (old new : List ℕ) (ended : Type 0)
    → begun.head ≡ None → AddsPiece a b old new → new ≡ [] → ended
    → (piece : List ℕ) × Consumes a b piece × ((start : ℕ) (bytes : List ℕ) → Holds start bytes (held_by begun body old)
    → FindsNone start (bytes ++ piece) ended (held_by begun body new))
head_none a b begun body old new ended none p nothing over = (
  p.0,
  p.1,
  λ start bytes h. record {
    none = sym (all_ahead start bytes p.0 begun body old new none p.2 h) ∙ nothing;
    over = over;
    holds = head_added start bytes p.0 begun body old new none p.2 h;
    between = none;
  },
)

-- a head came, was read, and then what follows
pub head_then : (a b c : Option (List ℕ)) (begun0 begun1 : Begun) (body0 body1 : Body) (old mid new : List ℕ)
    (P : ℕ → List ℕ → Type 0) → begun0.head ≡ None → AddsPiece a b old mid
    → ((start : ℕ) (bytes : List ℕ) → Holds start bytes (held_by begun0 body0 mid) → Holds start bytes
    (held_by begun1 body1 new))
    → (piece : List ℕ) × Consumes b c piece
    × ((start : ℕ) (bytes : List ℕ) → Holds start bytes (held_by begun1 body1 new) → P start (bytes ++ piece))
    → (piece : List ℕ) × Consumes a c piece
    × ((start : ℕ) (bytes : List ℕ) → Holds start bytes (held_by begun0 body0 old) → P start (bytes ++ piece))
head_then a b c begun0 begun1 body0 body1 old mid new P none p held q = (
  p.0 ++ q.0,
  Consumes-trans a b c p.0 q.0 p.1 q.1,
  λ start bytes h.
      subst (P start) (append_assoc bytes p.0 q.0)
      (q.2 start (bytes ++ p.0) (held start (bytes ++ p.0)
      (head_added start bytes p.0 begun0 body0 old mid none p.2 h))),
)

-- a head came, and there was no memory to take it in
pub head_memory : (a b : Option (List ℕ)) (begun0 begun1 : Begun) (body0 body1 : Body) (old mid new : List ℕ)
    (ended : Type 0)
    → begun0.head ≡ None → AddsPiece a b old mid
    → ((start : ℕ) (bytes : List ℕ) → Holds start bytes (held_by begun0 body0 mid) → Holds start bytes
    (held_by begun1 body1 new))
    → (piece : List ℕ) × Consumes a b piece
    × ((start : ℕ) (bytes : List ℕ) → Holds start bytes (held_by begun0 body0 old)
    → FindsFault start (bytes ++ piece) ended (held_by begun1 body1 new) faults.Memory)
head_memory a b begun0 begun1 body0 body1 old mid new ended none p held = (
  p.0,
  p.1,
  λ start bytes h. record {
    explained = tt;
    keeps = λ _. held start (bytes ++ p.0) (head_added start bytes p.0 begun0 body0 old mid none p.2 h);
  },
)

-- ---- the rest of a request

pub rest_moved : (start : ℕ) (bytes piece : List ℕ) (begun : Begun) (old new : Body) (ahead_old ahead_new : List ℕ)
    → IsSome begun.head → Moves (progress_of old ahead_old) (progress_of new ahead_new) piece
    → Holds start bytes (held_by begun old ahead_old) → Holds start (bytes ++ piece) (held_by begun new ahead_new)
rest_moved start bytes piece begun old new ahead_old ahead_new some m h = by_head begun.head refl some
  where
    by_head : (head : Option Head) → begun.head ≡ head → IsSome head → Holds start (bytes ++ piece)
        (held_by begun new ahead_new)
    by_head None e s = cc
    by_head (Some at) e s =
        holds_moved start bytes piece at (held_by begun old ahead_old) (held_by begun new ahead_new) e e refl m h

pub rest_fault : (a b : Option (List ℕ)) (begun : Begun) (old new : Body) (ahead_old ahead_new : List ℕ)
    (ended : Type 0)
    (fault : RequestFault) → IsSome begun.head → IsBegun begun.head begun.bytes.items old
    → HasRoom new.stage new.bytes.items
    → (piece : List ℕ) × Consumes a b piece × Moves (progress_of old ahead_old) (progress_of new ahead_new) piece
    → Stops (progress_of new ahead_new) ended fault
    → (piece : List ℕ) × Consumes a b piece × ((start : ℕ) (bytes : List ℕ)
    → Holds start bytes (held_by begun old ahead_old)
    → FindsFault start (bytes ++ piece) ended (held_by begun new ahead_new) fault)
rest_fault a b begun old new ahead_old ahead_new ended fault some is room m stops =
    (m.0, m.1, λ start bytes h. by_head start bytes h begun.head refl some)
  where
    by_head : (start : ℕ) (bytes : List ℕ) → Holds start bytes (held_by begun old ahead_old) → (head : Option Head)
        → begun.head ≡ head → IsSome head
        → FindsFault start (bytes ++ m.0) ended (held_by begun new ahead_new) fault
    by_head start bytes h None e s = cc
    by_head start bytes h (Some at) e s =
        let begun_so : IsBegun (Some at) begun.bytes.items old = subst (λ x. IsBegun x begun.bytes.items old) e is in
        held_stops start (bytes ++ m.0) at (held_by begun new ahead_new) ended fault e begun_so.0 begun_so.1 room
        (rest_moved start bytes m.0 begun old new ahead_old ahead_new some m.2 h) stops

-- there was no memory for a request that is whole
pub rest_memory : (a b : Option (List ℕ)) (begun : Begun) (old new : Body) (ahead_old ahead_new : List ℕ)
    (ended : Type 0)
    → IsSome begun.head
    → (piece : List ℕ) × Consumes a b piece × Moves (progress_of old ahead_old) (progress_of new ahead_new) piece
    → (piece : List ℕ) × Consumes a b piece × ((start : ℕ) (bytes : List ℕ)
    → Holds start bytes (held_by begun old ahead_old)
    → FindsFault start (bytes ++ piece) ended (held_by begun new ahead_new) faults.Memory)
rest_memory a b begun old new ahead_old ahead_new ended some m = (
  m.0,
  m.1,
  λ start bytes h. record {
    explained = tt;
    keeps = λ _. rest_moved start bytes m.0 begun old new ahead_old ahead_new some m.2 h;
  },
)

-- ---- where a whole request is held

-- no head is read then
pub ready_head : {S : Type 0} (left : S → Option (List ℕ)) (s t : S) (begun : Begun) (body : Body) (old new : List ℕ)
    → begun.head ≡ None → HoldsRequest (held_by begun body old) → AddsIf left (LacksHead old) s t old new
    → (t ≡ s) × (new ≡ old)
ready_head left s t begun body old new none h m = by_asks m.3
  where
    same : h.bytes ≡ old
    same = subst (λ x. HoldsSo h.start h.bytes x begun.bytes.items (progress_of body old)) none h.holds.so

    by_asks : AsksIf (LacksHead old) s t m.0 → (t ≡ s) × (new ≡ old)
    by_asks (inl x) = (x.0, m.2 ∙ ap (λ l. old ++ l) x.1 ∙ append-nil old)
    by_asks (inr lacks) =
        absurd (lacks h.begins.head h.begins.after
        (subst (λ l. BeginsHead l h.begins.head h.begins.after) same h.begins.begins))

-- the same request is held once its head was read
pub ready_begun : (begun0 begun1 : Begun) (body0 body1 : Body) (old mid new : List ℕ) → mid ≡ old
    → ((start : ℕ) (bytes : List ℕ) → Holds start bytes (held_by begun0 body0 mid) → Holds start bytes
    (held_by begun1 body1 new))
    → HoldsRequest (held_by begun0 body0 old) → HoldsRequest (held_by begun1 body1 new)
ready_begun begun0 begun1 body0 body1 old mid new same held h = record {
  start = h.start;
  bytes = h.bytes;
  rest = h.rest;
  asked = h.asked;
  holds = held h.start h.bytes (subst (λ l. Holds h.start h.bytes (held_by begun0 body0 l)) (sym same) h.holds);
  begins = h.begins;
}

-- nothing of its body is read then
pub ready_rest : {S : Type 0} (left : S → Option (List ℕ)) (s t : S) (begun : Begun) (body : Body) (ahead : List ℕ)
    (new : Progress) → IsSome begun.head → IsBegun begun.head begun.bytes.items body
    → HoldsRequest (held_by begun body ahead)
    → MovesIf left (LacksBody (progress_of body ahead)) s t (progress_of body ahead) new → t ≡ s
ready_rest left s t begun body ahead new some is h m = by_asks m.3
  where
    by_head : LacksBody (progress_of body ahead) → (head : Option Head) → begun.head ≡ head → IsSome head → ⊥
    by_head lacks None e w = cc
    by_head lacks (Some at) e w =
        let kept = begun.bytes.items in
        let so : HoldsSo h.start h.bytes (Some at) kept (progress_of body ahead) =
        subst (λ x. HoldsSo h.start h.bytes x kept (progress_of body ahead)) e h.holds.so in
        let begun_so : IsBegun (Some at) kept body = subst (λ x. IsBegun x kept body) e is in
        let next = lacks.moves.leads at.framing (h.start + at.len) so.0 so.1 in
        let follows : so.0 ++ ahead ≡ next.0 ++ lacks.at.ahead =
        ap (λ l. so.0 ++ l) (sym (append-nil ahead)) ∙ next.2 in
        no_lack lacks.at.stage lacks.at.body lacks.at.ahead h.asked.body h.rest
        (remains_at h.bytes h.rest h.asked h.begins begun_so.0.head (so.0 ++ ahead) at.framing next.0 lacks.at.stage
        lacks.at.body
        lacks.at.ahead
        (begins_head h.bytes kept (so.0 ++ ahead) at begun_so.0 begun_so.1 so.2) begun_so.0.framed next.1.0 follows)
        lacks.lacks

    by_asks : AsksIf (LacksBody (progress_of body ahead)) s t m.0 → t ≡ s
    by_asks (inl x) = x.0
    by_asks (inr lacks) = absurd (by_head lacks begun.head refl some)
