use Rattle.jsonline_in.specs.Reading.{text_at}
use Rattle.jsonline_in.proofs.Known.{fails_again, fails_mapped, whole_reads}
use Rattle.jsonline_in.proofs.fields.with_members.Goals as goal

pub returns-in-Ok : goal.returns-in-Ok
returns-in-Ok c =
    whole_reads c.into_fields.result (text_at c.args.inside.now) c.new-noting.result c.set_text.new.out c.args.fields
    c.new-noting.ensures c.in-Ok.ensures c.into_fields.ensures.ok c.into_fields.ensures.err

pub returns-in-Err : goal.returns-in-Err
returns-in-Err c =
    fails_again c.in-Err.stop _ (text_at c.args.inside.now)
    (fails_mapped c.in-Err.stop _ (text_at c.args.inside.now) c.in-Err.ensures)
