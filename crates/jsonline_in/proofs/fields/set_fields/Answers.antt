use Rattle.jsonline_in.proofs.fields.set_fields.Goals as goal

pub returns-in-Ok : goal.returns-in-Ok
returns-in-Ok c = rw c.replace-taken.ensures.value at c.in-Ok.ensures

pub returns-in-Err : goal.returns-in-Err
returns-in-Err c = rw c.replace-taken.ensures.value at c.in-Err.ensures
