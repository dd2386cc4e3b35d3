use Rattle.jsonline_in.proofs.Objects.{line_set, line_set_only}
use Rattle.jsonline_in.proofs.fields.fields_of.Goals as goal

pub returns-in-Ok-clause-read : goal.returns-in-Ok-clause-read
returns-in-Ok-clause-read c = line_set c.args.line.now c.in_ok-inside.inside.now c.in_ok-inside.ensures.inside
    c.args.out.now c.set_fields.new.out c.in-Ok.ensures

pub returns-in-Ok-clause-only : goal.returns-in-Ok-clause-only
returns-in-Ok-clause-only c = line_set_only c.args.line.now c.in_ok-inside.inside.now c.in_ok-inside.ensures.inside
    c.args.out.now c.set_fields.new.out c.in-Ok.ensures
