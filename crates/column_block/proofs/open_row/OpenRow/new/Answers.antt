use Rattle.column_block.proofs.OpenLaws.{row-there}
use Rattle.column_block.proofs.open_row.OpenRow.new.Goals as goal

pub returns-clause-row : goal.returns-clause-row
returns-clause-row c = row-there c.args.stored.now c.args.place c.requires
