use Rattle.lq_grammar.proofs.Moments.{duration_says, bound_says}
use Rattle.lq_grammar.proofs.Outcomes.{some_outcome, one_outcome, flaw_named}
use Rattle.lq_grammar.proofs.query_law.Goals as goal

pub returns-clause-durations : goal.returns-clause-durations
returns-clause-durations c = duration_says

pub returns-clause-bounds : goal.returns-clause-bounds
returns-clause-bounds c = bound_says

pub returns-clause-some : goal.returns-clause-some
returns-clause-some c = some_outcome

pub returns-clause-one : goal.returns-clause-one
returns-clause-one c = one_outcome

pub returns-clause-flawed : goal.returns-clause-flawed
returns-clause-flawed c = flaw_named
