use Rattle.std.proofs.Common.{length}
use Rattle.syslog_in.proofs.Elements.{ParamsSoFar}
use Rattle.syslog_in.proofs.data.set_params.Given as goal

abbrev pub invariant-params : goal.invariant-params
invariant-params l = ParamsSoFar l.id l.text l.rest l.fn.fields l.fields

abbrev pub decreases-params : goal.decreases-params
decreases-params l = length l.rest
