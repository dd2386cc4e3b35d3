use Rattle.std.proofs.Common.{refl, ap, ◌∙◌}
use Rattle.syslog_in.specs.Reading.{step_at}
use Rattle.syslog_in.proofs.Framers.{nothing_taken, nothing_short, is_short_from, are_apart}
use Rattle.syslog_in.proofs.Streams.{frames_unique}
use Rattle.syslog_in.proofs.framer.Framer.new.Goals as goal

pub invariant_of-result : goal.invariant_of-result
invariant_of-result c = is_short_from _ (ap step_at c.new.ensures.items ∙ nothing_short)

pub returns-clause-fresh : goal.returns-clause-fresh
returns-clause-fresh c = nothing_taken _ refl c.new.ensures.items refl

pub returns-clause-unique : goal.returns-clause-unique
returns-clause-unique c = frames_unique

pub returns-clause-apart : goal.returns-clause-apart
returns-clause-apart c = are_apart
