use Rattle.std.proofs.Common.{◌<◌, ap, length, subst, sym, ◌∙◌}
use Rattle.std.proofs.lemmas.Result.{on_ok_weaker}
use Rattle.log_model.specs.Field.{field_value, set_field}
use Rattle.log_model.specs.Row.{record_of}
use Rattle.log_model.specs.Stream.{label_text, stream_id}
use Rattle.lq_pipes.proofs.Projected.{at_id, at_stored, at_stream, at_time, named_value}
use Rattle.lq_pipes.proofs.projector.push_field.Goals as goal

pub returns-then-is_same : goal.returns-then-is_same
returns-then-is_same g c =
    let row = g.R.LentRow.event c.args.row.now in
    let name = c.args.name.now in
    let value = c.as_str.ensures.value ∙ c.in_ok-moment.ensures
    ∙ sym (at_time row name (sym c.is_same.ensures ∙ c.if-is_same.true)) in
    on_ok_weaker c.set.result (λ e. e ∙ ap (set_field c.args.fields.now name) value) c.set.ensures.ok

pub returns-then-is_same-2 : goal.returns-then-is_same-2
returns-then-is_same-2 g c =
    let row = g.R.LentRow.event c.args.row.now in
    let name = c.args.name.now in
    let value = c.id.ensures ∙ ap stream_id (c.in_ok-turn_to.ensures ∙ c.stream.ensures)
    ∙ sym (at_id row name (sym c.is_same.ensures ∙ c.if-is_same.false)
    (sym c.is_same-2.ensures ∙ c.if-is_same-2.true)) in
    on_ok_weaker c.set-then-is_same-2.result (λ e. e ∙ ap (set_field c.args.fields.now name) value)
    c.set-then-is_same-2.ensures.ok

pub returns-then-is_same-3 : goal.returns-then-is_same-3
returns-then-is_same-3 g c =
    let row = g.R.LentRow.event c.args.row.now in
    let name = c.args.name.now in
    let value = c.text.ensures ∙ ap label_text (c.in_ok-turn_to-2.ensures ∙ c.stream-then-is_same-3.ensures)
    ∙ sym (at_stream row name (sym c.is_same.ensures ∙ c.if-is_same.false)
    (sym c.is_same-2.ensures ∙ c.if-is_same-2.false) (sym c.is_same-3.ensures ∙ c.if-is_same-3.true)) in
    on_ok_weaker c.set-then-is_same-3.result (λ e. e ∙ ap (set_field c.args.fields.now name) value)
    c.set-then-is_same-3.ensures.ok

pub set_value-requires : goal.set_value-requires
set_value-requires g c =
    let row = g.R.LentRow.event c.args.row.now in
    let name = c.args.name.now in
    let stored = at_stored row name (sym c.is_same.ensures ∙ c.if-is_same.false)
    (sym c.is_same-2.ensures ∙ c.if-is_same-2.false) (sym c.is_same-3.ensures ∙ c.if-is_same-3.false) in
    λ some. named_value (record_of row) name c.requires
    (subst (λ value. 0 < length value) (c.value.ensures ∙ sym stored) some)

pub returns : goal.returns
returns g c =
    let row = g.R.LentRow.event c.args.row.now in
    let name = c.args.name.now in
    let stored = at_stored row name (sym c.is_same.ensures ∙ c.if-is_same.false)
    (sym c.is_same-2.ensures ∙ c.if-is_same-2.false) (sym c.is_same-3.ensures ∙ c.if-is_same-3.false) in
    let value = c.value.ensures ∙ sym stored in
    on_ok_weaker c.set_value.result (λ e. e ∙ ap (set_field c.args.fields.now name) value) c.set_value.ensures
