use Rattle.std.proofs.Common.{length}
use Rattle.syslog_in.proofs.Elements.{ElementsSoFar}
use Rattle.syslog_in.proofs.data.set_elements.Given as goal

abbrev pub invariant-elements : goal.invariant-elements
invariant-elements l = ElementsSoFar l.text l.inside l.fn.fields l.fields

abbrev pub decreases-elements : goal.decreases-elements
decreases-elements l = length l.inside
