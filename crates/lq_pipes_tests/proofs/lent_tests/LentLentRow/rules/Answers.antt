use Rattle.lent_row.proofs.Filled.{all_filled}
use Rattle.lq_pipes_tests.proofs.lent_tests.LentLentRow.rules.Goals as goal

pub returns-clause-fields : goal.returns-clause-fields
returns-clause-fields c = all_filled c.args.self.now.row.now.fields c.fields-fields.ensures.rules.fields
