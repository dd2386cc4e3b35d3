use Rattle.std.proofs.Common.{[], sym, ap, ◌∙◌}
use Rattle.log_model.specs.Field.{set_field}
use Rattle.lq_plain.proofs.Naming.{no_bytes, no_field_removed}
use Rattle.lq_plain.proofs.tuple_records.set.Goals as goal

pub returns-then-is_empty : goal.returns-then-is_empty
returns-then-is_empty c =
    let fields = c.args.fields.now in
    let nameless = no_bytes c.args.name.now (sym c.if-is_empty.ensures) in
    let empty = c.requires nameless in
    sym (ap (set_field fields c.args.name.now) empty ∙ ap (λ name. set_field fields name []) nameless
    ∙ no_field_removed fields c.as_slice.ensures.rules)
