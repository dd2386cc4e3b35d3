use Rattle.ingest_row.proofs.OnlyIntake.{one_intake}
use Rattle.ingest_row.proofs.law.intake_law.Goals as goal

pub returns : goal.returns
returns _ options now body one other given given_too = one_intake options now body one other given given_too
