use Rattle.col_codec.specs.Texts.{text_spelling}
use Rattle.col_codec.proofs.text_column.TextColumnSpelled.make.Goals as goal

pub returns-clause-spelled : goal.returns-clause-spelled
returns-clause-spelled c = (text_spelling c.args.self, c.requires)
