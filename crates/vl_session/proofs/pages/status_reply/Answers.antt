use Rattle.std.proofs.Common.{◌∙◌}
use Rattle.vl_session.proofs.StatusLemmas.{status_is}
use Rattle.vl_session.proofs.pages.status_reply.Goals as goal

pub returns : goal.returns
returns c =
    let content = c.as_str.ensures.value ∙ c.in_ok-content.ensures.ok
    ∙ status_is c.args.batches c.args.settled c.ranges.batches.fits c.ranges.settled.fits in
    rw content at c.reply.ensures
