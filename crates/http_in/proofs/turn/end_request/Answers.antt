use Rattle.std.proofs.Common.{refl, subst}
use Rattle.http_in.specs.Chunks.{HasRoom}
use Rattle.http_in.specs.Reading.{IsAskedAt, IsBegun, asked_by, held_by}
use Rattle.http_in.proofs.ReadingLemmas.{held_done}
use Rattle.http_in.proofs.turn.end_request.Goals as goal

pub returns-clause-ok : goal.returns-clause-ok
returns-clause-ok c = λ start bytes ahead holds.
    let at = c.in-Some.head in
    let kept = c.args.begun.now.bytes.items in
    let begun = subst (λ head. IsBegun head kept c.args.body.now) c.in-Some.is c.requires.begun in
    let asked = asked_by c.in_ok-request.request in
    held_done start bytes at (held_by c.args.begun.now c.args.body.now ahead) _ asked c.in-Some.is refl refl refl
    c.requires.done begun.0 begun.1 (subst (λ stage. HasRoom stage c.args.body.now.bytes.items) c.requires.done begun.2)
    c.in_ok-request.ensures.body
    (subst (λ l. IsAskedAt l at asked) c.deref.ensures.value c.in_ok-request.ensures.asked)
    holds
