use Rattle.col_codec.specs.Ints.{int_spelling}
use Rattle.col_codec.proofs.int_column.IntColumnSpelled.make.Goals as goal

pub returns-clause-spelled : goal.returns-clause-spelled
returns-clause-spelled c = (int_spelling c.args.self, c.requires)
