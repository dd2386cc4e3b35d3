use Rattle.col_codec.specs.Texts.{text_spelling}
use Rattle.col_codec.specs.TextLaws.{writing-is}
use Rattle.block_column.proofs.take.take_plain.Goals as goal

pub returns-clause-count : goal.returns-clause-count
returns-clause-count c =
    (writing-is c.args.rows c.in_ok-texts.texts (text_spelling c.in_ok-texts.texts) c.in_ok-texts.ensures.written).0
