use Rattle.std.proofs.Common.{ap, ◌∙◌}
use Rattle.log_model.specs.Field.{Field}
use Rattle.block_model.proofs.RowLaws.{name-put}
use Rattle.part_file.proofs.FollowedLaws.{now_of}
use Rattle.part_file.proofs.followed.put_fields.Goals as goal

pub loop-field-preserved : goal.loop-field-preserved
loop-field-preserved c =
    name-put now_of c.loop-field.names.keys c.insert.new.self.keys c.name_of.result _ c.args.fields.now
    c.loop-field.field-index c.field-item.result c.loop-field-test.true c.in_ok-insert.ensures.keys
    (c.name_of.ensures ∙ ap (λ (field : Field). field.0) c.field-item.is) c.loop-field.invariant
