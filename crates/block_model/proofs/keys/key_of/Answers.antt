use Rattle.std.proofs.Common.{sym}
use Rattle.block_model.proofs.keys.key_of.Goals as goal

pub returns-clause-rules : goal.returns-clause-rules
returns-clause-rules c =
    rw (sym c.numbered.view_is) (record {
      batch = c.checked_key.ensures.batch.1;
      place = c.checked_key.ensures.place.1;
      row = c.fields.ensures.rules;
    })
