use Rattle.vl_session.proofs.SelectLemmas.{only_evaluation, only_found, select_answered}
use Rattle.vl_session.proofs.law.select_law.Goals as goal

pub returns-clause-found : goal.returns-clause-found
returns-clause-found c text now history records has = only_found c.query_law.ensures.one text now history records has

pub returns-clause-asked : goal.returns-clause-asked
returns-clause-asked c text now history = only_evaluation c.query_law.ensures.one text now history

pub returns-clause-select : goal.returns-clause-select
returns-clause-select c caller select = select_answered c.query_law.ensures.one caller select
