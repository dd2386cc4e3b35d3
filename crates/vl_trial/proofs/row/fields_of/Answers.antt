use Rattle.vl_trial.proofs.Drawing.{fields_set}
use Rattle.vl_trial.proofs.row.fields_of.Goals as goal

pub returns : goal.returns
returns c =
    rw (c.in_ok-set-4.ensures.ok, c.in_ok-set-3.ensures.ok, c.in_ok-set-2.ensures.ok, c.in_ok-set.ensures.ok)
    (rw (c.in_ok-fields.ensures, c.format.ensures.text, c.level.ensures, c.app.ensures, c.as_str.ensures.value)
    (rw c.in_ok-message.ensures
    (fields_set c.args.number c.args.draw)))
