use Rattle.std.proofs.Common.{refl}
use Rattle.lq_ast.specs.PipeView.{sort_by}
use Rattle.lq_order.specs.declared.column.Column.{Column}
use Rattle.lq_order.proofs.Columns.{mirrors_made}
use Rattle.lq_order.proofs.column.Column.of.Goals as goal

pub returns : goal.returns
returns c =
    let key = c.args.key.now in
    let values = c.in_ok-values.values in
    let column : Column = record { values = values; desc = key.desc } in
    mirrors_made column values (sort_by key) c.as_str-name.result.now c.args.records.now refl refl
    c.as_str-name.ensures.value c.in_ok-values.ensures
