use Rattle.std.proofs.Common.{◌≡◌, ◌∙◌, List, ap}
use Rattle.log_model.specs.History.{Numbered}
use Rattle.column_block.specs.InColumns.{InColumns, row_at}
use Rattle.column_block.proofs.OpenLaws.{at-some, row-there}
use Rattle.column_block.proofs.open_row.OpenRowLentRow.copy_fields.Goals as goal

pub returns : goal.returns
returns c =
    let rows : List Numbered = c.self.inside.stored.now in
    let n : Numbered = (row_at rows c.self.inside.place).numbered in
    at-some _ (λ (m : Numbered). c.in_ok-fields.fields ≡ m.row.fields) n c.in_ok-fields.ensures
    (row-there rows c.self.inside.place c.self.invariant)
    ∙ ap (λ (r : InColumns). r.numbered.row.fields) c.self.view_is
