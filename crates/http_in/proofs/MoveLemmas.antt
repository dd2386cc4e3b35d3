-- Steps of a reader through a body.
use Rattle.std.proofs.Common.{Bool, true, false, inl, inr}
use Rattle.std.proofs.Common.{◌≡◌, ℕ, ◌+◌, ◌<◌, List, [], ◌++◌, take, drop, length, refl, ap, sym}
use Rattle.std.proofs.Common.{subst, ◌∙◌, arith, append_assoc, append-nil, length-append}
use Rattle.std.specs.Prelude.{◌==◌, Option, if◌then◌else◌, nat_eq}
use Rattle.std.proofs.lemmas.Bool.Decides.{nat_tests}
use Rattle.std.proofs.lemmas.List.{take-append-drop}
use Rattle.vl_io.proofs.Laws.{Consumes-nil, Consumes-trans}
use Rattle.httparse.specs.Ascii.{crlf_bytes}
use Rattle.httparse.specs.Grammar.{print_chunk_line, print_section}
use Rattle.http_in.specs.Chunks.{Leads}
use Rattle.http_in.specs.Limits.{place}
use Rattle.http_in.specs.Lacks.{AddsIf, AsksIf, Lacks, LacksBody, MovesIf}
use Rattle.http_in.specs.Progress.{IsData, IsLineAt, IsTrailerAt, Moves, Progress, Takes, progress_of}
use Rattle.http_in.specs.Progress.{stage_with}
use Rattle.http_in.specs.declared.body.Body.{Body}
use Rattle.http_in.specs.declared.line.Line.{Line}
use Rattle.http_said.specs.declared.framing.Framing.{Framing}
use Rattle.http_in.specs.declared.stage.Stage.{Stage}
use Rattle.http_in.specs.declared.stage.Stage.TheVariants as stages
use Rattle.http_in.proofs.BodyLemmas.{leads_data, leads_end, leads_last, leads_line, leads_rest, leads_to_end}
use Rattle.http_in.proofs.BodyLemmas.{leads_trailer, leads_whole}

-- what was used up comes after what led here
pub moves_used : (old new : Progress) (piece used : List ℕ) → new.start ≡ old.start
    → old.ahead ++ piece ≡ used ++ new.ahead → new.place ≡ place (old.place + length used)
    → ((framing : Framing) (raw : List ℕ) → Leads framing raw old.stage old.body
    → Leads framing (raw ++ used) new.stage new.body) → Moves old new piece
moves_used old new piece used s e p step = record {
  start = s;
  leads = λ framing base raw l. (
    raw ++ used,
    (step framing raw l.0, (let q = l.1 in omega (arith, p, q, length-append raw used))),
    ap (λ z. raw ++ z) e ∙ sym (append_assoc raw used new.ahead),
  );
}

-- nothing was used up
pub moves_wait : (body : Body) (ahead now piece : List ℕ) → now ≡ ahead ++ piece
    → Moves (progress_of body ahead) (progress_of body now) piece
moves_wait body ahead now piece e =
    record { start = refl; leads = λ framing base raw l. (raw, l, ap (λ z. raw ++ z) (sym e)) }

pub moves_more : (a b c : Progress) (p q : List ℕ) → Moves a b p → Moves b c q → Moves a c (p ++ q)
moves_more a b c p q m n = record {
  start = n.start ∙ m.start;
  leads = λ framing base raw l.
      let x = m.leads framing base raw l in
      let y = n.leads framing base x.0 x.1 in (
        y.0,
        y.1,
        ap (λ z. raw ++ z) (sym (append_assoc a.ahead p q)) ∙ sym (append_assoc raw (a.ahead ++ p) q)
            ∙ ap (λ z. z ++ q) x.2
            ∙ append_assoc x.0 b.ahead q
            ∙ y.2,
      );
}

-- one step after others
pub moves_step : {S : Type 0} (left : S → Option (List ℕ)) (s t u : S) (a b c : Progress)
    → MovesIf left (LacksBody a) s t a b → MovesIf left (Lacks b.stage b.ahead) t u b c
    → MovesIf left (LacksBody a) s u a c
moves_step left s t u a b c p q = (
  p.0 ++ q.0,
  Consumes-trans (left s) (left t) (left u) p.0 q.0 p.1 q.1,
  moves_more a b c p.0 q.0 p.2 q.2,
  asks p.3 q.3,
)
  where
    asks : AsksIf (LacksBody a) s t p.0 → AsksIf (Lacks b.stage b.ahead) t u q.0 → AsksIf (LacksBody a) s u (p.0 ++ q.0)
    asks (inr short) y = inr short
    asks (inl x) (inr short) =
        inr (record { at = b; moves = subst (Moves a b) x.1 p.2; lacks = short })
    asks (inl x) (inl y) = inl (y.0 ∙ x.0, ap (λ l. l ++ q.0) x.1 ∙ y.1)

pub moves_none : {S : Type 0} (left : S → Option (List ℕ)) (short : Type 0) (src : S) (body : Body) (ahead : List ℕ)
    → MovesIf left short src src (progress_of body ahead) (progress_of body ahead)
moves_none left short src body ahead =
    ([], Consumes-nil (left src), moves_wait body ahead ahead [] (sym (append-nil ahead)), inl (refl, refl))

-- data in the window only, and then from the source
pub takes_here : (ahead bytes ahead_new bytes_new : List ℕ) (count : ℕ) → ahead_new ≡ drop count ahead
    → bytes_new ≡ bytes ++ take count ahead → Takes ahead bytes ahead_new bytes_new []
takes_here ahead bytes ahead_new bytes_new count a b = record {
  taken = take count ahead;
  left = append-nil ahead ∙ sym (take-append-drop count ahead) ∙ ap (λ l. take count ahead ++ l) (sym a);
  came = b;
}

pub takes_both : (ahead bytes ahead_new mid now piece : List ℕ) (count : ℕ) → ahead_new ≡ drop count ahead
    → ahead_new ≡ [] → mid ≡ bytes ++ take count ahead → now ≡ mid ++ piece → Takes ahead bytes ahead_new now piece
takes_both ahead bytes ahead_new mid now piece count a none m e =
    let all : take count ahead ≡ ahead =
    sym (append-nil (take count ahead)) ∙ ap (λ l. take count ahead ++ l) (sym none ∙ a)
    ∙ take-append-drop count ahead in
    record {
      taken = take count ahead ++ piece;
      left = ap (λ l. l ++ piece) (sym all) ∙ sym (append-nil (take count ahead ++ piece))
          ∙ ap (λ l. (take count ahead ++ piece) ++ l) (sym none);
      came = e ∙ ap (λ l. l ++ piece) m ∙ append_assoc bytes (take count ahead) piece;
    }

pub takes_len : (ahead bytes ahead_new bytes_new piece : List ℕ) → (t : Takes ahead bytes ahead_new bytes_new piece)
    → length bytes_new ≡ length bytes + length t.taken
takes_len ahead bytes ahead_new bytes_new piece t = omega (arith, ap length t.came, length-append bytes t.taken)

-- ---- one step from each stage

taken_len : (old new : Progress) (piece : List ℕ) → (t : Takes old.ahead old.body new.ahead new.body piece)
    → length new.body ≡ length old.body + length t.taken
taken_len old new piece t = omega (arith, ap length t.came, length-append old.body t.taken)

moves_to_end : (old new : Progress) (piece : List ℕ) (left : ℕ) → old.stage ≡ stages.Data left
    → new.stage ≡ stages.End → new.start ≡ old.start → Takes old.ahead old.body new.ahead new.body piece
    → length new.body ≡ length old.body + left → new.place ≡ place (old.place + left) → Moves old new piece
moves_to_end old new piece left at to start t whole there =
    let size = taken_len old new piece t in
    let split : left ≡ length t.taken = omega (arith, size, whole) in
    moves_used old new piece t.taken start t.left (omega (arith, there, split))
    (λ framing raw l.
    subst (λ s. Leads framing (raw ++ t.taken) s new.body) (sym to)
    (subst (λ b. Leads framing (raw ++ t.taken) stages.End b) (sym t.came)
    (leads_to_end framing raw old.body t.taken left split (subst (λ s. Leads framing raw s old.body) at l))))

moves_data : (old new : Progress) (piece : List ℕ) (left rest came : ℕ) → old.stage ≡ stages.Data left
    → new.stage ≡ stages.Data rest → new.start ≡ old.start → Takes old.ahead old.body new.ahead new.body piece
    → length new.body ≡ length old.body + came → left ≡ came + rest → new.place ≡ place (old.place + came)
    → Moves old new piece
moves_data old new piece left rest came at to start t whole both there =
    let size = taken_len old new piece t in
    let is : came ≡ length t.taken = omega (arith, size, whole) in
    let split : left ≡ length t.taken + rest = omega (arith, both, is) in
    moves_used old new piece t.taken start t.left (omega (arith, there, is))
    (λ framing raw l.
    subst (λ s. Leads framing (raw ++ t.taken) s new.body) (sym to)
    (subst (λ b. Leads framing (raw ++ t.taken) (stages.Data rest) b) (sym t.came)
    (leads_data framing raw old.body t.taken left rest split (subst (λ s. Leads framing raw s old.body) at l))))

moves_whole : (old new : Progress) (piece : List ℕ) (left : ℕ) → old.stage ≡ stages.Rest left
    → new.stage ≡ stages.Done → new.start ≡ old.start → Takes old.ahead old.body new.ahead new.body piece
    → length new.body ≡ length old.body + left → new.place ≡ place (old.place + left) → Moves old new piece
moves_whole old new piece left at to start t whole there =
    let size = taken_len old new piece t in
    let split : left ≡ length t.taken = omega (arith, size, whole) in
    moves_used old new piece t.taken start t.left (omega (arith, there, split))
    (λ framing raw l.
    subst (λ s. Leads framing (raw ++ t.taken) s new.body) (sym to)
    (subst (λ b. Leads framing (raw ++ t.taken) stages.Done b) (sym t.came)
    (leads_whole framing raw old.body t.taken left split (subst (λ s. Leads framing raw s old.body) at l))))

moves_rest : (old new : Progress) (piece : List ℕ) (left rest came : ℕ) → old.stage ≡ stages.Rest left
    → new.stage ≡ stages.Rest rest → new.start ≡ old.start → Takes old.ahead old.body new.ahead new.body piece
    → length new.body ≡ length old.body + came → left ≡ came + rest → new.place ≡ place (old.place + came)
    → Moves old new piece
moves_rest old new piece left rest came at to start t whole both there =
    let size = taken_len old new piece t in
    let is : came ≡ length t.taken = omega (arith, size, whole) in
    let split : left ≡ length t.taken + rest = omega (arith, both, is) in
    moves_used old new piece t.taken start t.left (omega (arith, there, is))
    (λ framing raw l.
    subst (λ s. Leads framing (raw ++ t.taken) s new.body) (sym to)
    (subst (λ b. Leads framing (raw ++ t.taken) (stages.Rest rest) b) (sym t.came)
    (leads_rest framing raw old.body t.taken left rest split (subst (λ s. Leads framing raw s old.body) at l))))

-- ---- a step through data

missing_none : (n : ℕ) (a b : Stage) → n ≡ 0 → (if n == 0 then a else b) ≡ a
missing_none n a b is = ap (λ k. if k == 0 then a else b) is

missing_some : (n : ℕ) (a b : Stage) → 0 < n → (if n == 0 then a else b) ≡ b
missing_some n a b some = ap (λ t. if t then a else b) (let e : (n == 0) ≡ false = grind (arith, nat_tests) in e)

pub moves_taken : (old new : Progress) (piece : List ℕ) (left rest came : ℕ) → IsData old.stage left
    → new.stage ≡ stage_with old.stage rest → new.start ≡ old.start
    → Takes old.ahead old.body new.ahead new.body piece → length new.body ≡ length old.body + came
    → left ≡ came + rest → new.place ≡ place (old.place + came) → Moves old new piece
moves_taken old new piece left rest came is to start t size both there = by_test (nat_eq rest 0) refl is
  where
    by_test : (b : Bool) → nat_eq rest 0 ≡ b → IsData old.stage left → Moves old new piece
    by_test true e (inl at) =
        let none : rest ≡ 0 = grind (arith, nat_tests) in
        moves_whole old new piece left at
        (to ∙ ap (λ s. stage_with s rest) at ∙ missing_none rest stages.Done (stages.Rest rest) none) start t
        (omega (arith, size, both, none)) (omega (arith, there, both, none))
    by_test true e (inr at) =
        let none : rest ≡ 0 = grind (arith, nat_tests) in
        moves_to_end old new piece left at
        (to ∙ ap (λ s. stage_with s rest) at ∙ missing_none rest stages.End (stages.Data rest) none) start t
        (omega (arith, size, both, none)) (omega (arith, there, both, none))
    by_test false e (inl at) =
        let some : 0 < rest = grind (arith, nat_tests) in
        moves_rest old new piece left rest came at
        (to ∙ ap (λ s. stage_with s rest) at ∙ missing_some rest stages.Done (stages.Rest rest) some) start t
        size both there
    by_test false e (inr at) =
        let some : 0 < rest = grind (arith, nat_tests) in
        moves_data old new piece left rest came at
        (to ∙ ap (λ s. stage_with s rest) at ∙ missing_some rest stages.End (stages.Data rest) some) start t
        size both there

pub asks_data : {S : Type 0} (stage : Stage) (left : ℕ) (ahead piece : List ℕ) (a b : S) → IsData stage left
    → AsksIf (length ahead < left) a b piece → AsksIf (Lacks stage ahead) a b piece
asks_data stage left ahead piece a b is (inl same) = inl same
asks_data stage left ahead piece a b (inl at) (inr short) = inr (subst (λ s. Lacks s ahead) (sym at) short)
asks_data stage left ahead piece a b (inr at) (inr short) = inr (subst (λ s. Lacks s ahead) (sym at) short)

-- ---- one step over a piece

pub asks_at : {S : Type 0} (stage at : Stage) (ahead piece : List ℕ) (a b : S) → stage ≡ at
    → AsksIf (Lacks at ahead) a b piece → AsksIf (Lacks stage ahead) a b piece
asks_at stage at ahead piece a b is asks = subst (λ s. AsksIf (Lacks s ahead) a b piece) (sym is) asks

-- nothing was used up, whatever was taken
pub moves_still : {S : Type 0} (left : S → Option (List ℕ)) (s t : S) (body : Body) (stage : Stage) (old new : List ℕ)
    → body.stage ≡ stage → AddsIf left (Lacks stage old) s t old new
    → MovesIf left (Lacks body.stage old) s t (progress_of body old) (progress_of body new)
moves_still left s t body stage old new is m =
    (m.0, m.1, moves_wait body old new m.0 m.2, asks_at body.stage stage old m.0 s t is m.3)

pub moves_line : (old new : Progress) (piece mid : List ℕ) (at : Line) → old.stage ≡ stages.Line
    → new.stage ≡ stages.Data at.size → new.start ≡ old.start → new.body ≡ old.body → mid ≡ old.ahead ++ piece
    → IsLineAt mid at → 0 < at.size → new.ahead ≡ drop at.len mid → new.place ≡ place (old.place + at.len)
    → Moves old new piece
moves_line old new piece mid at from to start body e is some behind there =
    let line = is.line in
    moves_used old new piece (print_chunk_line line) start
    (sym e ∙ is.whole ∙ ap (λ z. print_chunk_line line ++ z) (sym behind))
    (there ∙ ap (λ n. place (old.place + n)) is.len)
    (λ framing raw l.
    subst (λ s. Leads framing (raw ++ print_chunk_line line) s new.body) (sym to)
    (subst (λ b. Leads framing (raw ++ print_chunk_line line) (stages.Data at.size) b) (sym body)
    (leads_line framing raw old.body line at.size is.is_line (sym is.size) some
    (subst (λ s. Leads framing raw s old.body) from l))))

pub moves_last : (old new : Progress) (piece mid : List ℕ) (at : Line) → old.stage ≡ stages.Line
    → new.stage ≡ stages.Trailer → new.start ≡ old.start → new.body ≡ old.body → mid ≡ old.ahead ++ piece
    → IsLineAt mid at → at.size ≡ 0 → new.ahead ≡ drop at.len mid → new.place ≡ place (old.place + at.len)
    → Moves old new piece
moves_last old new piece mid at from to start body e is none behind there =
    let line = is.line in
    moves_used old new piece (print_chunk_line line) start
    (sym e ∙ is.whole ∙ ap (λ z. print_chunk_line line ++ z) (sym behind))
    (there ∙ ap (λ n. place (old.place + n)) is.len)
    (λ framing raw l.
    subst (λ s. Leads framing (raw ++ print_chunk_line line) s new.body) (sym to)
    (subst (λ b. Leads framing (raw ++ print_chunk_line line) stages.Trailer b) (sym body)
    (leads_last framing raw old.body line is.is_line (sym is.size ∙ none)
    (subst (λ s. Leads framing raw s old.body) from l))))

pub moves_over_end : (old new : Progress) (piece : List ℕ) → old.stage ≡ stages.End → new.stage ≡ stages.Line
    → new.start ≡ old.start → new.body ≡ old.body → old.ahead ++ piece ≡ crlf_bytes ++ new.ahead
    → new.place ≡ place (old.place + 2) → Moves old new piece
moves_over_end old new piece from to start body e there =
    moves_used old new piece crlf_bytes start e there
    (λ framing raw l.
    subst (λ s. Leads framing (raw ++ crlf_bytes) s new.body) (sym to)
    (subst (λ b. Leads framing (raw ++ crlf_bytes) stages.Line b) (sym body)
    (leads_end framing raw old.body (subst (λ s. Leads framing raw s old.body) from l))))

pub moves_trailer : (old new : Progress) (piece mid : List ℕ) (len : ℕ) → old.stage ≡ stages.Trailer
    → new.stage ≡ stages.Done → new.start ≡ old.start → new.body ≡ old.body → mid ≡ old.ahead ++ piece
    → IsTrailerAt mid len → new.ahead ≡ drop len mid → new.place ≡ place (old.place + len) → Moves old new piece
moves_trailer old new piece mid len from to start body e is behind there =
    let section : List ℕ = print_section is.fields is.last in
    moves_used old new piece section start
    (sym e ∙ is.whole ∙ ap (λ z. section ++ z) (sym behind)) (there ∙ ap (λ n. place (old.place + n)) is.len_is)
    (λ framing raw l.
    subst (λ s. Leads framing (raw ++ section) s new.body) (sym to)
    (subst (λ b. Leads framing (raw ++ section) stages.Done b) (sym body)
    (leads_trailer framing raw old.body is.fields is.last is.section
    (subst (λ s. Leads framing raw s old.body) from l))))
