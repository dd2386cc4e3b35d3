use Rattle.std.proofs.Common.{◌≡◌, ◌-◌, ap, arith, length, take, ◌∙◌}
use Rattle.log_model.specs.Core.{parts_of}
use Rattle.log_core.proofs.Fronts.{are_front}
use Rattle.log_desk_tests.proofs.parts_tests.front_parts.Goals as goal

pub returns : goal.returns
returns c =
    let same = c.in_ok-look.ensures.held in
    let stands = c.count-count.ensures.stands in
    let first = c.len-all.result - (c.count-count.result - c.args.front) in
    let long : c.len-all.result ≡ length (parts_of c.args.shelf.now) =
    c.len-all.ensures ∙ ap (λ h. length (parts_of h)) same in
    are_front (λ rows. rows) c.args.shelf.now c.args.front first _ stands.0 stands.1
    (omega (arith, c.if-front-settled.false, c.settled-settled.ensures.value))
    (omega (arith, c.if-count-front.false, c.count-count.ensures.value, stands.1.counted))
    (omega (arith, c.if-all-later.false, c.if-count-front.false, c.count-count.ensures.value, long))
    (c.in_ok-days.ensures ∙ ap (λ h. take first (parts_of h)) same)
