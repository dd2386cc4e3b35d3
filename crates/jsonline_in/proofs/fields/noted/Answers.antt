use Rattle.jsonline_in.specs.Reading.{text_at}
use Rattle.jsonline_in.proofs.Known.{fails_mapped, read_noted}
use Rattle.jsonline_in.proofs.fields.noted.Goals as goal

pub returns-in-Ok-clause-says : goal.returns-in-Ok-clause-says
returns-in-Ok-clause-says c =
    read_noted (text_at c.args.inside.now) c.new-noting.result c.set_text.new.out c.args.all c.in_ok-fields.fields
    c.new-noting.ensures c.in-Ok.ensures c.in_ok-fields.ensures

pub returns-in-Err-clause-fails : goal.returns-in-Err-clause-fails
returns-in-Err-clause-fails c = fails_mapped c.in-Err.stop _ (text_at c.args.inside.now) c.in-Err.ensures
