-- One call of a reader, from its parts.
use Rattle.std.proofs.Common.{◌≡◌, ℕ, ◌+◌, ◌<◌, ◌≤◌, List, [], ◌++◌, drop, length, Some}
use Rattle.std.proofs.Common.{None, refl, ap, sym, subst, ◌∙◌, inl, inr, arith, append_assoc}
use Rattle.std.proofs.Common.{length-append}
use Rattle.std.proofs.lemmas.List.{length-drop, nil_from_length}
use Rattle.httparse.specs.Grammar.{ReadsRequest, print_request}
use Rattle.httparse.proofs.GrammarLemmas.{ReadsRequest-append}
use Rattle.httparse.specs.Spans.{span_bytes}
use Rattle.http_said.specs.Arguments.{arguments_of, path_of}
use Rattle.http_in.specs.Chunks.{HasRoom, IsWholeBody, Leads}
use Rattle.http_in.specs.Faults.{HasBodyFault, HasCome, Hits, IsInside, Waits}
use Rattle.http_in.specs.Head.{ExplainsHead, IsHeadAt}
use Rattle.http_said.specs.Limits.{body_limit}
use Rattle.http_in.specs.Limits.{place}
use Rattle.http_in.specs.Message.{Asked, Begins, BeginsHead}
use Rattle.http_in.specs.Progress.{LeadsTo, Moves, Progress, Stops}
use Rattle.http_in.specs.Reading.{Explains, FindsFault, FindsRequest, Held, Holds, HoldsSo, IsAskedAt}
use Rattle.http_in.specs.declared.head.Head.{Head}
use Rattle.http_in.specs.declared.stage.Stage.TheVariants as stages
use Rattle.http_in.specs.declared.fault.RequestFault.{RequestFault}
use Rattle.http_in.specs.declared.fault.RequestFault.TheVariants as faults
use Rattle.http_in.proofs.HeadLemmas.{head_some}

-- ---- what is held

-- more bytes after those that are ahead, while no head was read
pub holds_added : (start : ℕ) (bytes piece : List ℕ) (old new : Held) → old.head ≡ None → new.head ≡ None
    → new.progress.start ≡ old.progress.start → new.progress.ahead ≡ old.progress.ahead ++ piece
    → Holds start bytes old → Holds start (bytes ++ piece) new
holds_added start bytes piece old new none still s a h =
    let same : bytes ≡ old.progress.ahead =
    subst (λ x. HoldsSo start bytes x old.bytes old.progress) none h.so in
    record {
      start_is = s ∙ h.start_is;
      so = subst (λ x. HoldsSo start (bytes ++ piece) x new.bytes new.progress) (sym still)
          (ap (λ l. l ++ piece) same ∙ sym a);
    }

-- a step through the body
pub holds_moved : (start : ℕ) (bytes piece : List ℕ) (at : Head) (old new : Held)
    → old.head ≡ Some at → new.head ≡ Some at
    → new.bytes ≡ old.bytes → Moves old.progress new.progress piece → Holds start bytes old
    → Holds start (bytes ++ piece) new
holds_moved start bytes piece at old new some still b m h =
    let so : HoldsSo start bytes (Some at) old.bytes old.progress =
    subst (λ x. HoldsSo start bytes x old.bytes old.progress) some h.so in
    let next = m.leads at.framing (start + at.len) so.0 so.1 in
    let joined : bytes ++ piece ≡ new.bytes ++ (next.0 ++ new.progress.ahead) =
    ap (λ l. l ++ piece) so.2 ∙ append_assoc old.bytes (so.0 ++ old.progress.ahead) piece
    ∙ ap (λ l. old.bytes ++ l) (append_assoc so.0 old.progress.ahead piece ∙ next.2)
    ∙ ap (λ l. l ++ (next.0 ++ new.progress.ahead)) (sym b) in
    record {
      start_is = m.start ∙ h.start_is;
      so = subst (λ x. HoldsSo start (bytes ++ piece) x new.bytes new.progress) (sym still) (next.0, next.1, joined);
    }

-- ---- what came of a body

nothing_after : (kept : List ℕ) (len : ℕ) → length kept ≡ len → drop len kept ≡ []
nothing_after kept len e = nil_from_length (drop len kept) (omega (arith, length-drop len kept))

pub begins_head : (bytes kept after : List ℕ) (at : Head) → (h : IsHeadAt kept at) → length kept ≡ at.len
    → bytes ≡ kept ++ after → BeginsHead bytes h.head after
begins_head bytes kept after at h len e = record {
  reads = subst (λ l. ReadsRequest l h.head after) (sym e)
      (subst (λ l. ReadsRequest (kept ++ after) h.head (l ++ after)) (nothing_after kept at.len len)
      (ReadsRequest-append kept h.head (drop at.len kept) after h.reads));
  short = omega (arith, h.len, h.limit);
  few = h.few;
}

pub come_of : (bytes kept raw : List ℕ) (at : Head) (p : Progress) → IsHeadAt kept at → length kept ≡ at.len
    → Leads at.framing raw p.stage p.body → HasRoom p.stage p.body → bytes ≡ kept ++ (raw ++ p.ahead) → HasCome bytes
come_of bytes kept raw at p h len leads room e = record {
  head = h.head;
  after = raw ++ p.ahead;
  begins = begins_head bytes kept (raw ++ p.ahead) at h len e;
  framing = at.framing;
  framed = h.framed;
  raw = raw;
  stage = p.stage;
  body = p.body;
  rest = p.ahead;
  leads = leads;
  room = room;
  follows = refl;
}

-- a request whose body is whole
pub begins_whole : (bytes kept raw ahead : List ℕ) (at : Head) (asked : Asked) → IsHeadAt kept at → length kept ≡ at.len
    → IsWholeBody at.framing raw asked.body → length asked.body ≤ body_limit → IsAskedAt kept at asked
    → bytes ≡ kept ++ (raw ++ ahead) → Begins bytes asked ahead
begins_whole bytes kept raw ahead at asked h len body short is e = record {
  head = h.head;
  after = raw ++ ahead;
  framing = at.framing;
  raw = raw;
  begins = begins_head bytes kept (raw ++ ahead) at h len e;
  framed = h.framed;
  body = body;
  short = short;
  follows = refl;
  asks = record {
    method = is.method ∙ h.method;
    path = is.path ∙ ap path_of h.target;
    args = is.args ∙ ap (λ m. arguments_of m (span_bytes kept at.target) at.form asked.body) h.method
        ∙ ap (λ t. arguments_of h.head.method t at.form asked.body) h.target
        ∙ ap (λ f. arguments_of h.head.method h.head.target f asked.body) h.form;
    last = is.last ∙ h.last;
  };
}

body_fault : (start : ℕ) (bytes kept raw : List ℕ) (at : Head) (p : Progress) (fault : RequestFault) → IsHeadAt kept at
    → length kept ≡ at.len → LeadsTo at.framing (start + at.len) raw p → HasRoom p.stage p.body
    → bytes ≡ kept ++ (raw ++ p.ahead) → Hits p.place p.stage p.body p.ahead fault → HasBodyFault start bytes fault
unfolding come_of
body_fault start bytes kept raw at p fault h len leads room e hits =
    let there : p.place ≡ place (start + length (print_request h.head) + length raw) =
    leads.1 ∙ ap (λ n. place (start + n + length raw)) h.len in
    record {
      come = come_of bytes kept raw at p h len leads.0 room e;
      hits = subst (λ n. Hits n p.stage p.body p.ahead fault) there hits;
    }

in_body : (start : ℕ) (bytes kept raw : List ℕ) (at : Head) (p : Progress) → IsHeadAt kept at → length kept ≡ at.len
    → LeadsTo at.framing (start + at.len) raw p → HasRoom p.stage p.body → bytes ≡ kept ++ (raw ++ p.ahead)
    → Waits p.stage p.ahead → IsInside bytes
unfolding come_of
in_body start bytes kept raw at p h len leads room e waits =
    inr (record { come = come_of bytes kept raw at p h len leads.0 room e; waits = waits })

some_bytes : (bytes kept rest : List ℕ) (at : Head) → IsHeadAt kept at → bytes ≡ kept ++ rest → 0 < length bytes
some_bytes bytes kept rest at h e =
    let some = head_some h.head h.reads.0 in omega (arith, h.len, h.fits, ap length e, length-append kept rest)

-- why the body is not whole
pub stops_explained : (start : ℕ) (bytes kept raw : List ℕ) (at : Head) (p : Progress) (ended : Type 0)
    (fault : RequestFault) → IsHeadAt kept at → length kept ≡ at.len → LeadsTo at.framing (start + at.len) raw p
    → HasRoom p.stage p.body → p.start ≡ place start → bytes ≡ kept ++ (raw ++ p.ahead) → Stops p ended fault
    → Explains start bytes ended fault
stops_explained start bytes kept raw at p ended faults.SourceFault h len leads room s e stops =
    in_body start bytes kept raw at p h len leads room e stops
stops_explained start bytes kept raw at p ended (faults.BadHead x) h len leads room s e stops = absurd stops
stops_explained start bytes kept raw at p ended (faults.Cut x) h len leads room s e stops = (
  stops.0 ∙ s,
  some_bytes bytes kept (raw ++ p.ahead) at h e,
  in_body start bytes kept raw at p h len leads room e stops.1,
  stops.2,
)
stops_explained start bytes kept raw at p ended faults.HeadLarge h len leads room s e stops =
    inr (body_fault start bytes kept raw at p faults.HeadLarge h len leads room e stops)
stops_explained start bytes kept raw at p ended faults.BodyLarge h len leads room s e stops =
    inr (body_fault start bytes kept raw at p faults.BodyLarge h len leads room e stops)
stops_explained start bytes kept raw at p ended faults.BadLength h len leads room s e stops = absurd stops
stops_explained start bytes kept raw at p ended (faults.BadChunk x) h len leads room s e stops =
    body_fault start bytes kept raw at p (faults.BadChunk x) h len leads room e stops
stops_explained start bytes kept raw at p ended faults.Coding h len leads room s e stops = absurd stops
stops_explained start bytes kept raw at p ended faults.Memory h len leads room s e stops = tt

-- the same of what is held
pub held_stops : (start : ℕ) (bytes : List ℕ) (at : Head) (held : Held) (ended : Type 0) (fault : RequestFault)
    → held.head ≡ Some at → IsHeadAt held.bytes at → length held.bytes ≡ at.len
    → HasRoom held.progress.stage held.progress.body → Holds start bytes held → Stops held.progress ended fault
    → FindsFault start bytes ended held fault
held_stops start bytes at held ended fault some h len room holds stops =
    let so : HoldsSo start bytes (Some at) held.bytes held.progress =
    subst (λ x. HoldsSo start bytes x held.bytes held.progress) some holds.so in
    record {
      explained = stops_explained start bytes held.bytes so.0 at held.progress ended fault h len so.1 room
          holds.start_is so.2 stops;
      keeps = λ _. holds;
    }

-- a whole request is handed out
pub held_done : (start : ℕ) (bytes : List ℕ) (at : Head) (old new : Held) (asked : Asked) → old.head ≡ Some at
    → new.head ≡ None → new.progress.start ≡ old.progress.place → new.progress.ahead ≡ old.progress.ahead
    → old.progress.stage ≡ stages.Done → IsHeadAt old.bytes at → length old.bytes ≡ at.len
    → length old.progress.body ≤ body_limit → asked.body ≡ old.progress.body → IsAskedAt old.bytes at asked
    → Holds start bytes old → FindsRequest start bytes new asked
held_done start bytes at old new asked some none s a done h len short body is holds =
    let so : HoldsSo start bytes (Some at) old.bytes old.progress =
    subst (λ x. HoldsSo start bytes x old.bytes old.progress) some holds.so in
    let raw = so.0 in
    let leads : IsWholeBody at.framing raw asked.body =
    subst (IsWholeBody at.framing raw) (sym body) (subst (λ x. Leads at.framing raw x old.progress.body) done so.1.0) in
    let e : bytes ≡ old.bytes ++ (raw ++ new.progress.ahead) = so.2 ∙ ap (λ l. old.bytes ++ (raw ++ l)) (sym a) in
    record {
      used = old.bytes ++ raw;
      rest = new.progress.ahead;
      whole = e ∙ sym (append_assoc old.bytes raw new.progress.ahead);
      begins = begins_whole bytes old.bytes raw new.progress.ahead at asked h len leads
          (subst (λ l. length l ≤ body_limit) (sym body) short) is e;
      holds = record {
        start_is = s ∙ so.1.1 ∙ ap place
            (let n : start + at.len + length raw ≡ start + length (old.bytes ++ raw) = omega
            (arith, len, length-append old.bytes raw) in n);
        so = subst (λ x. HoldsSo (start + length (old.bytes ++ raw)) new.progress.ahead x new.bytes new.progress)
            (sym none) refl;
      };
      between = none;
    }

-- ---- heads

-- why the head is missing is why the request is missing
pub head_explained : (start : ℕ) (bytes : List ℕ) (at : ℕ) (ended : Type 0) (fault : RequestFault) → at ≡ place start
    → ExplainsHead at bytes ended fault → Explains start bytes ended fault
head_explained start bytes at ended faults.SourceFault s x = inl x
head_explained start bytes at ended (faults.BadHead y) s x = (x.0 ∙ s, x.1)
head_explained start bytes at ended (faults.Cut y) s x = (x.0 ∙ s, x.1, inl x.2, x.3)
head_explained start bytes at ended faults.HeadLarge s x = inl x
head_explained start bytes at ended faults.BodyLarge s x = inl x
head_explained start bytes at ended faults.BadLength s x = x
head_explained start bytes at ended (faults.BadChunk y) s x = absurd x
head_explained start bytes at ended faults.Coding s x = x
head_explained start bytes at ended faults.Memory s x = tt
