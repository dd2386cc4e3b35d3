use Rattle.vl_trial.proofs.Cutting.{all_rows, batches_at_first, few_batches}
use Rattle.vl_trial.proofs.batches.TrialBatches.new.Goals as goal

pub returns-clause-batches : goal.returns-clause-batches
returns-clause-batches c = batches_at_first c.args.seed c.args.rows

pub returns-clause-whole : goal.returns-clause-whole
returns-clause-whole c = all_rows c.args.seed c.args.rows

pub returns-clause-few : goal.returns-clause-few
returns-clause-few c = few_batches c.args.seed c.args.rows c.requires
