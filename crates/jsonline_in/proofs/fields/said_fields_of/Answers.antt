use Rattle.jsonline_in.proofs.Known.{line_known}
use Rattle.jsonline_in.proofs.fields.said_fields_of.Goals as goal

pub returns-in-Ok-clause-read : goal.returns-in-Ok-clause-read
returns-in-Ok-clause-read c =
    line_known c.args.all c.args.line.now c.in_ok-inside.inside.now c.in_ok-inside.ensures.inside c.in-Ok.said.fields
    c.in-Ok.said.far c.in-Ok.ensures.says
