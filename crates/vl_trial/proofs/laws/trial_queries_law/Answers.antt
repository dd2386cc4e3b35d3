use Rattle.vl_trial.proofs.Spelled.{count_asks, errors_asks, slow_asks}
use Rattle.vl_trial.proofs.laws.trial_queries_law.Goals as goal

pub returns-clause-counted : goal.returns-clause-counted
returns-clause-counted c = count_asks

pub returns-clause-errors : goal.returns-clause-errors
returns-clause-errors c = errors_asks

pub returns-clause-slow : goal.returns-clause-slow
returns-clause-slow c = slow_asks
