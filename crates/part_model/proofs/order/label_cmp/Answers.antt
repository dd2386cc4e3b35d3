use Rattle.std.proofs.Common.{◌∙◌, sym}
use Rattle.log_model.specs.Field.{bytes_cmp}
use Rattle.part_model.proofs.LabelLaws.{same-name}
use Rattle.part_model.proofs.order.label_cmp.Goals as goal

pub returns-then-have_same_name : goal.returns-then-have_same_name
returns-then-have_same_name c =
    c.value_cmp.ensures
    ∙ sym (same-name c.args.label.now.0 c.args.other.now.0 (bytes_cmp c.args.label.now.1 c.args.other.now.1)
    (sym c.have_same_name.ensures ∙ c.if-have_same_name.true))
