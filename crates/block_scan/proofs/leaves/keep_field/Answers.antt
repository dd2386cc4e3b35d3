use Rattle.std.proofs.Common.{◌≡◌, ◌∙◌, Bool, List, None, ap, length, subst, sym, true}
use Rattle.std.specs.Prelude.{OnOk}
use Rattle.std.proofs.lemmas.List.{length-map}
use Rattle.log_model.specs.Field.{field_value}
use Rattle.log_model.specs.History.{Numbered}
use Rattle.log_model.specs.Row.{value_of}
use Rattle.block_column.specs.Lent.{values_lent}
use Rattle.block_model.specs.Columns.{values_of}
use Rattle.lq_filter.specs.Computed.{is_source}
use Rattle.lq_filter.specs.Value.{field_holds, field_name}
use Rattle.block_scan.proofs.Fields.{stored}
use Rattle.block_scan.specs.Marks.{kept}
use Rattle.block_scan.proofs.leaves.keep_field.Goals as goal

pub keep_values-requires-clause-rows : goal.keep_values-requires-clause-rows
keep_values-requires-clause-rows c =
    c.requires
    ∙ sym (length-map c.args.rows.now (λ (numbered : Numbered). field_value numbered.row.fields c.name.result.now))
    ∙ ap length (sym c.values.ensures.values)

pub returns-in-None : goal.returns-in-None
returns-in-None c =
    let test = field_holds c.args.field.now in
    let name = field_name c.args.field.now in
    let rows = c.args.rows.now in
    let marks = c.args.marks.now in
    let source : is_source None name ≡ true = c.in-None.ensures in
    let same : kept test (values_lent c.values.result) marks
    ≡ kept (λ (numbered : Numbered). test (value_of numbered.row name)) rows marks =
    ap (λ l. kept test l marks) (c.values.ensures.values ∙ ap (values_of rows) c.name.ensures)
    ∙ stored test rows name marks source in
    subst (λ (l : List Bool). OnOk c.keep_values.result (c.keep_values.new.marks ≡ l)) same c.keep_values.ensures
