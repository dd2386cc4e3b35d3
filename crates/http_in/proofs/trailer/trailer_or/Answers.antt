use Rattle.std.proofs.Common.{inr}
use Rattle.http_in.proofs.trailer.trailer_or.Goals as goal

pub returns-in-Err-clause-fault : goal.returns-in-Err-clause-fault
returns-in-Err-clause-fault c = inr c.in-Err.ensures.fault
