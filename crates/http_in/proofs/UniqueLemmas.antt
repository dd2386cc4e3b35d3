-- Bytes begin with one request at most. Where they begin with one, nothing is wrong with them, and nothing is missing.
use Rattle.std.proofs.Common.{◌≡◌, ◌≢◌, ℕ, ◌+◌, ◌-◌, ◌<◌, Bool, List, [], ◌++◌, take, length, Ok}
use Rattle.std.proofs.Common.{Err, refl, ap, sym, subst, ◌∙◌, inl, inr, arith, append_assoc, length-append}
use Rattle.std.specs.Prelude.{Result}
use Rattle.httparse.specs.Grammar.{RequestHead, ReadsRequest, print_request}
use Rattle.httparse.proofs.GrammarLemmas.{request_unique}
use Rattle.http_said.specs.Arguments.{arguments_of, path_of}
use Rattle.http_said.specs.Fields.{asks_to_close, framing_of, is_form}
use Rattle.http_said.specs.declared.framing.FieldFault.{FieldFault}
use Rattle.http_said.specs.declared.framing.FieldFault.TheVariants as fields
use Rattle.http_in.specs.Chunks.{IsWholeBody, Leads}
use Rattle.http_in.specs.Faults.{HasBadHead, HasBodyFault, HasCome, HasFault, HasHeadLine, HasLargeHead, HasUnframed}
use Rattle.http_in.specs.Faults.{IsInside}
use Rattle.http_in.specs.Faults.{place_behind}
use Rattle.http_in.specs.Limits.{field_limit, head_limit}
use Rattle.http_in.specs.Message.{Asked, Asks, Begins, BeginsHead, fields_of}
use Rattle.http_in.specs.Reading.{Explains}
use Rattle.http_in.specs.declared.fault.RequestFault.{RequestFault}
use Rattle.http_in.specs.declared.fault.RequestFault.TheVariants as faults
use Rattle.http_said.specs.declared.framing.Framing.{Framing}
use Rattle.http_in.specs.declared.stage.Stage.{Stage}
use Rattle.http_in.specs.declared.stage.Stage.TheVariants as stages
use Rattle.http_in.proofs.CountLemmas.{head_lines}
use Rattle.http_in.proofs.HeadLemmas.{head_some}
use Rattle.http_in.proofs.RemainLemmas.{Remains, in_front, no_hit, no_wait, over_text, remains}

pub ok_is : {A E : Type 0} (r : Result A E) (x y : A) → r ≡ Ok x → r ≡ Ok y → x ≡ y
ok_is r x y p q = cc

never_both : {A E : Type 0} (r : Result A E) (x : A) (e : E) → r ≡ Ok x → r ≡ Err e → ⊥
never_both r x e p q = cc

-- ---- heads

-- a head with few fields has no line too many
not_over : (bytes after : List ℕ) (h : RequestHead) → BeginsHead bytes h after → HasHeadLine (take head_limit bytes) → ⊥
not_over bytes after h b x =
    let longer = over_text (print_request h) after bytes x.front head_limit (field_limit + 1) b.reads.1 x.over
    (omega (arith, b.few, head_lines h b.reads.0)) in
    x.is_front.none h longer.0 (b.reads.0, longer.1)

pub no_bad_head : (bytes rest : List ℕ) (asked : Asked) → Begins bytes asked rest → HasBadHead bytes → ⊥
no_bad_head bytes rest asked x f =
    f.never f.later x.head x.after (subst (λ l. ReadsRequest l x.head x.after) f.whole x.begins.reads)

pub head_not_large : (bytes after : List ℕ) (h : RequestHead) → BeginsHead bytes h after → HasLargeHead bytes → ⊥
head_not_large bytes after h b (inl f) =
    let text : List ℕ = print_request h in
    f.1.none h (take (head_limit - length text) after)
    (b.reads.0, ap (take head_limit) b.reads.1 ∙ in_front text after b.short)
head_not_large bytes after h b (inr f) = not_over bytes after h b f

pub no_large_head : (bytes rest : List ℕ) (asked : Asked) → Begins bytes asked rest → HasLargeHead bytes → ⊥
no_large_head bytes rest asked x f = head_not_large bytes x.after x.head x.begins f

pub no_unframed : (bytes rest : List ℕ) (asked : Asked) (fault : FieldFault) → Begins bytes asked rest
    → HasUnframed bytes fault → ⊥
no_unframed bytes rest asked fault x f =
    let heads = request_unique bytes x.head f.head x.after f.after x.begins.reads f.begins.reads in
    never_both (framing_of (fields_of f.head)) _ _
    (ap (λ (h : RequestHead). framing_of (fields_of h)) (sym heads.0) ∙ x.framed) f.unframed

-- ---- bodies

-- what remains of the request's body after a part of it
pub remains_at : (bytes rest : List ℕ) (asked : Asked) → Begins bytes asked rest → (head : RequestHead) (after : List ℕ)
    (framing : Framing) (raw : List ℕ) (stage : Stage) (body ahead : List ℕ) → BeginsHead bytes head after
    → framing_of (fields_of head) ≡ Ok framing → Leads framing raw stage body → after ≡ raw ++ ahead
    → Remains stage body ahead asked.body rest
remains_at bytes rest asked x head after framing raw stage body ahead begins framed leads follows =
    let heads = request_unique bytes x.head head x.after after x.begins.reads begins.reads in
    let same = ok_is (framing_of (fields_of head)) x.framing framing
    (ap (λ (h : RequestHead). framing_of (fields_of h)) (sym heads.0) ∙ x.framed) framed in
    remains framing stage raw body ahead x.raw asked.body rest after
    (subst (λ f. IsWholeBody f x.raw asked.body) same x.body) (sym heads.1 ∙ x.follows) leads follows

remains_in : (bytes rest : List ℕ) (asked : Asked) → Begins bytes asked rest → (c : HasCome bytes)
    → Remains c.stage c.body c.rest asked.body rest
remains_in bytes rest asked x c =
    remains_at bytes rest asked x c.head c.after c.framing c.raw c.stage c.body c.rest c.begins c.framed c.leads
    c.follows

pub no_body_fault : (start : ℕ) (bytes rest : List ℕ) (asked : Asked) (fault : RequestFault) → Begins bytes asked rest
    → HasBodyFault start bytes fault → ⊥
no_body_fault start bytes rest asked fault x f =
    let come = f.come in
    no_hit (place_behind start come) come.stage come.body come.rest asked.body rest fault
    (remains_in bytes rest asked x come) x.short f.hits

-- ---- requests

pub no_fault : (start : ℕ) (bytes rest : List ℕ) (asked : Asked) (fault : RequestFault) → Begins bytes asked rest
    → HasFault start bytes fault → ⊥
no_fault start bytes rest asked faults.SourceFault x f = f
no_fault start bytes rest asked (faults.BadHead at) x f = no_bad_head bytes rest asked x f.1
no_fault start bytes rest asked (faults.Cut at) x f = f
no_fault start bytes rest asked faults.HeadLarge x (inl f) = no_large_head bytes rest asked x f
no_fault start bytes rest asked faults.HeadLarge x (inr f) =
    no_body_fault start bytes rest asked faults.HeadLarge x f
no_fault start bytes rest asked faults.BodyLarge x (inl f) = no_unframed bytes rest asked fields.BodyLarge x f
no_fault start bytes rest asked faults.BodyLarge x (inr f) =
    no_body_fault start bytes rest asked faults.BodyLarge x f
no_fault start bytes rest asked faults.BadLength x f = no_unframed bytes rest asked fields.BadLength x f
no_fault start bytes rest asked (faults.BadChunk at) x f =
    no_body_fault start bytes rest asked (faults.BadChunk at) x f
no_fault start bytes rest asked faults.Coding x f = no_unframed bytes rest asked fields.Coding x f
no_fault start bytes rest asked faults.Memory x f = f

-- a whole request does not wait
pub not_inside : (bytes rest : List ℕ) (asked : Asked) → Begins bytes asked rest → IsInside bytes → ⊥
not_inside bytes rest asked x (inl f) = f.1.none x.head x.after x.begins.reads
not_inside bytes rest asked x (inr f) =
    no_wait f.come.stage f.come.body f.come.rest asked.body rest (remains_in bytes rest asked x f.come) f.waits

-- so no reading ends there, but for out of memory
pub not_explained : (start : ℕ) (bytes rest : List ℕ) (asked : Asked) (ended : Type 0) (fault : RequestFault)
    → Begins bytes asked rest → fault ≢ faults.Memory → Explains start bytes ended fault → ⊥
not_explained start bytes rest asked ended faults.SourceFault x other f = not_inside bytes rest asked x f
not_explained start bytes rest asked ended (faults.BadHead at) x other f =
    no_fault start bytes rest asked (faults.BadHead at) x f
not_explained start bytes rest asked ended (faults.Cut at) x other f = not_inside bytes rest asked x f.2
not_explained start bytes rest asked ended faults.HeadLarge x other f =
    no_fault start bytes rest asked faults.HeadLarge x f
not_explained start bytes rest asked ended faults.BodyLarge x other f =
    no_fault start bytes rest asked faults.BodyLarge x f
not_explained start bytes rest asked ended faults.BadLength x other f =
    no_fault start bytes rest asked faults.BadLength x f
not_explained start bytes rest asked ended (faults.BadChunk at) x other f =
    no_fault start bytes rest asked (faults.BadChunk at) x f
not_explained start bytes rest asked ended faults.Coding x other f = no_fault start bytes rest asked faults.Coding x f
not_explained start bytes rest asked ended faults.Memory x other f = other refl

-- what a request takes of the bytes
pub Begins-used : (bytes rest : List ℕ) (asked : Asked) → Begins bytes asked rest
    → (used : List ℕ) × (bytes ≡ used ++ rest) × (0 < length used)
Begins-used bytes rest asked x =
    let text : List ℕ = print_request x.head in (
      text ++ x.raw,
      x.begins.reads.1 ∙ ap (λ l. text ++ l) x.follows ∙ sym (append_assoc text x.raw rest),
      omega (arith, length-append text x.raw, head_some x.head x.begins.reads.0),
    )

-- the empty input is not a request
pub not_empty : (rest : List ℕ) (asked : Asked) → Begins [] asked rest → ⊥
not_empty rest asked x =
    let u = Begins-used [] rest asked x in
    absurd (omega (arith, ap length u.1, length-append u.0 rest, u.2))

-- ---- one request

asked_is : (a b : Asked) → a.method ≡ b.method → a.path ≡ b.path → a.args ≡ b.args → a.body ≡ b.body → a.last ≡ b.last
    → a ≡ b
asked_is a b m p r y l =
    let make : List ℕ → List ℕ → List (List ℕ × List ℕ) → List ℕ → Bool → Asked =
    λ m p r y l. record { method = m; path = p; args = r; body = y; last = l } in
    ap (λ x. make x a.path a.args a.body a.last) m ∙ ap (λ x. make b.method x a.args a.body a.last) p
    ∙ ap (λ x. make b.method b.path x a.body a.last) r ∙ ap (λ x. make b.method b.path b.args x a.last) y
    ∙ ap (make b.method b.path b.args b.body) l

-- what a head and a body ask for is one
asks_one : (h k : RequestHead) (a b : Asked) → h ≡ k → a.body ≡ b.body → Asks h a → Asks k b → a ≡ b
asks_one h k a b same body x y =
    let of_head : RequestHead → List ℕ → List (List ℕ × List ℕ) =
    λ (h : RequestHead) body. arguments_of h.method h.target (is_form (fields_of h)) body in
    asked_is a b (x.method ∙ ap (λ (h : RequestHead). h.method) same ∙ sym y.method)
    (x.path ∙ ap (λ (h : RequestHead). path_of h.target) same ∙ sym y.path)
    (x.args ∙ ap (λ h. of_head h a.body) same ∙ ap (of_head k) body ∙ sym y.args) body
    (x.last ∙ ap (λ (h : RequestHead). asks_to_close h.minor (fields_of h)) same ∙ sym y.last)

pub Begins-unique : (bytes r q : List ℕ) (a b : Asked) → Begins bytes a r → Begins bytes b q → (a ≡ b) × (r ≡ q)
Begins-unique bytes r q a b x y =
    let heads = request_unique bytes x.head y.head x.after y.after x.begins.reads y.begins.reads in
    let framing = ok_is (framing_of (fields_of y.head)) x.framing y.framing
    (ap (λ (h : RequestHead). framing_of (fields_of h)) (sym heads.0) ∙ x.framed) y.framed in
    let bodies = remains y.framing stages.Done y.raw b.body q x.raw a.body r y.after
    (subst (λ f. IsWholeBody f x.raw a.body) framing x.body) (sym heads.1 ∙ x.follows) y.body y.follows in
    (asks_one x.head y.head a b heads.0 bodies.0 x.asks y.asks, sym bodies.1)
