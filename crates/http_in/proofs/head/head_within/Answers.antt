use Rattle.std.proofs.Common.{Ok, ap, subst, sym, ◌+◌}
use Rattle.http_in.specs.Head.{IsHeadAt, ParsesNot}
use Rattle.http_in.specs.Limits.{field_limit}
use Rattle.http_in.specs.Lines.{IsFrontOf}
use Rattle.http_in.proofs.HeadLemmas.{IsHeadAt-more}
use Rattle.http_in.proofs.LimitLemmas.{head_large, head_open, no_more_fields}
use Rattle.http_in.proofs.head.head_within.Goals as goal

pub returns-in-Ok-Some-clause-found : goal.returns-in-Ok-Some-clause-found
returns-in-Ok-Some-clause-found c =
    let front = c.front_of-front in
    let found = rw c.in-Ok-Some.field-0-is at c.in-Ok-Some.ensures.found in
    subst (λ l. IsHeadAt l c.in-Ok-Some.head) (sym front.ensures.whole)
    (IsHeadAt-more front.result.bytes.now front.ensures.later c.in-Ok-Some.head found)

pub returns-in-Ok-None-clause-fault : goal.returns-in-Ok-None-clause-fault
returns-in-Ok-None-clause-fault c =
    let front = c.front_of-front in
    head_large c.args.bytes.now front.result.bytes.now
    (subst (IsFrontOf c.args.bytes.now (field_limit + 1) front.result.bytes.now) c.if-front.true front.ensures)
    (c.in-Ok-None.ensures.open (ap Ok c.in-Ok-None.field-0-is))

pub returns-in-Ok-None-2-clause-open : goal.returns-in-Ok-None-2-clause-open
returns-in-Ok-None-2-clause-open c = λ _.
    let front = c.front_of-front in
    head_open c.args.bytes.now front.result.bytes.now
    (subst (IsFrontOf c.args.bytes.now (field_limit + 1) front.result.bytes.now) c.if-front.false front.ensures)
    (c.in-Ok-None.ensures.open (ap Ok c.in-Ok-None.field-0-is))

pub unreachable-requires : goal.unreachable-requires
unreachable-requires c =
    let front = c.front_of-front in
    no_more_fields front.result.bytes.now front.ensures.few
    (subst (ParsesNot front.result.bytes.now) c.in-Err-Lines.field-0-is c.in-Err-Lines.ensures.fault)
