use Rattle.lent_row.proofs.Filled.{all_filled}
use Rattle.lent_row.proofs.of_row.RowLentRow.rules.Goals as goal

pub returns-clause-fields : goal.returns-clause-fields
returns-clause-fields c = all_filled c.args.self.now.fields c.fields-fields.ensures.rules.fields
