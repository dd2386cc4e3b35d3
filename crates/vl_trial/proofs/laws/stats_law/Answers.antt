use Rattle.vl_trial.proofs.Safe.{has_records}
use Rattle.vl_trial.proofs.laws.stats_law.Goals as goal

pub returns : goal.returns
returns c = has_records
