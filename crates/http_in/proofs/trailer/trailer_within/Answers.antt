use Rattle.std.proofs.Common.{◌≤◌, ap, subst, sym, Err, inl, inr, length, refl, rules, arith}
use Rattle.http_in.specs.Limits.{field_limit}
use Rattle.http_in.specs.Lines.{IsFrontOf}
use Rattle.http_in.specs.Progress.{IsTrailerAt}
use Rattle.http_in.proofs.LimitLemmas.{bad_section, no_more_trailers, section_long, section_open}
use Rattle.http_in.proofs.LineLemmas.{trailer_at, trailer_more}
use Rattle.http_in.proofs.trailer.trailer_within.Goals as goal

pub returns-in-Ok-Complete-clause-found : goal.returns-in-Ok-Complete-clause-found
returns-in-Ok-Complete-clause-found c =
    let front = c.front_of-front in
    let w = c.in-Ok-Complete in
    let room : length c.parse_headers.new.headers ≤ field_limit = omega (arith, c.parse_headers.auto.headers) in
    let within = rw w.field-0-is at w.ensures.within in
    let whole = rw w.field-0-is at w.ensures.complete in
    subst (λ l. IsTrailerAt l w.len) (sym front.ensures.whole)
    (trailer_more front.result.bytes.now front.ensures.later w.len
    (trailer_at front.result.bytes.now c.parse_headers.new.headers w.len w.field-0-0-1 front.ensures.short room within
    whole))

pub returns-in-Ok-Partial-clause-fault : goal.returns-in-Ok-Partial-clause-fault
returns-in-Ok-Partial-clause-fault c =
    let front = c.front_of-front in
    let w = c.in-Ok-Partial in
    let none = rw w.field-0-is at w.ensures.partial in
    let may = rw w.field-0-is at w.ensures.unfinished in
    inr (
      refl,
      section_long c.args.bytes.now front.result.bytes.now
          (subst (IsFrontOf c.args.bytes.now field_limit front.result.bytes.now) c.if-front.true front.ensures) none
          may,
    )

pub returns-in-Ok-Partial-2-clause-open : goal.returns-in-Ok-Partial-2-clause-open
returns-in-Ok-Partial-2-clause-open c = λ _.
    let front = c.front_of-front in
    let w = c.in-Ok-Partial in
    let none = rw w.field-0-is at w.ensures.partial in
    let may = rw w.field-0-is at w.ensures.unfinished in
    section_open c.args.bytes.now front.result.bytes.now
    (subst (IsFrontOf c.args.bytes.now field_limit front.result.bytes.now) c.if-front.false front.ensures) none may

pub unreachable-requires : goal.unreachable-requires
unreachable-requires c =
    let front = c.front_of-front in
    let w = c.in-Err-TooManyHeaders in
    no_more_trailers front.result.bytes.now front.ensures.few (w.ensures.too_many (ap Err w.field-0-is))

pub returns-in-Err-clause-fault : goal.returns-in-Err-clause-fault
returns-in-Err-clause-fault c =
    let front = c.front_of-front in
    inl (
      refl,
      bad_section c.args.bytes.now front.result.bytes.now front.result.full front.ensures
          (c.in-Err.ensures.invalid (λ e. search rules)),
    )
