use Rattle.std.proofs.Common.{ap, ◌∙◌}
use Rattle.syslog_in.specs.Reading.{step_at}
use Rattle.syslog_in.proofs.Framers.{nothing_short, is_short_from}
use Rattle.syslog_in.proofs.framer.Framer.finish.Goals as goal

pub invariant_of-self : goal.invariant_of-self
invariant_of-self c = is_short_from _ (ap step_at c.clear.ensures.items ∙ nothing_short)

pub invariant_of-self-2 : goal.invariant_of-self-2
invariant_of-self-2 c = is_short_from _ (ap step_at c.clear-2.ensures.items ∙ nothing_short)
