use Rattle.std.proofs.Common.{sym, ◌∙◌}
use Rattle.log_model.specs.Field.{field_value, set_field}
use Rattle.log_model.specs.Row.{record_of}
use Rattle.lq_pipes.proofs.Projected.{none_kept, record_more}
use Rattle.lq_pipes.proofs.projector.narrow_record.Goals as goal

pub loop-name-init : goal.loop-name-init
loop-name-init g c = c.in_ok-fields.ensures ∙ sym (none_kept (record_of (g.R.LentRow.event c.args.row.now)))

pub loop-name-preserved : goal.loop-name-preserved
loop-name-preserved g c =
    let r = record_of (g.R.LentRow.event c.args.row.now) in
    let named = c.as_str.ensures.value in
    let before = c.loop-name.invariant in
    c.in_ok-push_field.ensures ∙ (λ i. set_field (before i) (named i) (field_value r (named i)))
    ∙ sym (record_more c.args.names.now c.loop-name.name-index c.name-item.result r c.requires c.loop-name-test.true
    c.name-item.is)
