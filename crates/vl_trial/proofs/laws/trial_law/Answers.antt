use Rattle.vl_trial.proofs.Trials.{alike, always_has_records, questions_have_records}
use Rattle.vl_trial.proofs.laws.trial_law.Goals as goal

pub returns-clause-questions : goal.returns-clause-questions
returns-clause-questions c = questions_have_records

pub returns-clause-always : goal.returns-clause-always
returns-clause-always c = always_has_records

pub returns-clause-alike : goal.returns-clause-alike
returns-clause-alike c = alike
