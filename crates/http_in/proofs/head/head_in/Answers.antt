use Rattle.std.proofs.Common.{take, drop, sym, subst}
use Rattle.std.proofs.lemmas.List.{take-append-drop}
use Rattle.http_in.specs.Head.{ParsesNot}
use Rattle.http_in.proofs.HeadLemmas.{IsHeadAt-front, front_fault}
use Rattle.http_in.proofs.head.head_in.Goals as goal

pub returns-in-Ok-Some-clause-found : goal.returns-in-Ok-Some-clause-found
returns-in-Ok-Some-clause-found c = IsHeadAt-front c.min.result c.args.bytes.now _
    (rw c.in-Ok-Some.field-0-is at c.in-Ok-Some.ensures.found)

pub returns-in-Err-Fields-clause-fault : goal.returns-in-Err-Fields-clause-fault
returns-in-Err-Fields-clause-fault c =
    let n = c.min.result in
    let bytes = c.args.bytes.now in
    front_fault c.args.start bytes (take n bytes) (drop n bytes) c.in-Err-Fields.fault c.from.result
    (sym (take-append-drop n bytes)) c.from.ensures
    (subst (ParsesNot (take n bytes)) c.in-Err-Fields.field-0-is c.in-Err-Fields.ensures.fault)
