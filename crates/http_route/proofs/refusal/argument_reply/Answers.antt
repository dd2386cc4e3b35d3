use Rattle.std.proofs.Common.{◌∙◌}
use Rattle.http_route.proofs.refusal.argument_reply.Goals as goal

pub returns : goal.returns
returns c =
    let text = c.as_str.ensures.value ∙ c.in_ok-content.ensures.ok in
    rw (rw c.name-name.ensures at text) at c.reply.ensures
