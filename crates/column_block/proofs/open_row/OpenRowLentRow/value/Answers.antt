use Rattle.std.proofs.Common.{◌≡◌, ◌∙◌, List, ap}
use Rattle.lent_row.specs.Cells.{value_text}
use Rattle.log_model.specs.Field.{field_value}
use Rattle.log_model.specs.History.{Numbered}
use Rattle.column_block.specs.InColumns.{InColumns, row_at}
use Rattle.column_block.proofs.OpenLaws.{at-some, row-there}
use Rattle.column_block.proofs.open_row.OpenRowLentRow.value.Goals as goal

pub returns : goal.returns
returns c =
    let rows : List Numbered = c.self.inside.stored.now in
    let n : Numbered = (row_at rows c.self.inside.place).numbered in
    at-some _ (λ (m : Numbered). value_text c.value_named.result ≡ field_value m.row.fields c.args.name.now) n
    c.value_named.ensures (row-there rows c.self.inside.place c.self.invariant)
    ∙ ap (λ (r : InColumns). field_value r.numbered.row.fields c.args.name.now) c.self.view_is
