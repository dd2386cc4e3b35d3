use Rattle.std.proofs.Common.{◌∙◌, List, ap, length, sym}
use Rattle.log_model.specs.History.{Numbered}
use Rattle.column_block.specs.InColumns.{InColumns, cells_in}
use Rattle.column_block.proofs.OpenLaws.{cell-count, column-count}
use Rattle.column_block.proofs.open_row.OpenRowLentRow.cell_count.Goals as goal

pub returns : goal.returns
returns c =
    let rows : List Numbered = c.self.inside.stored.now in
    c.columns.ensures ∙ column-count rows c.head.result.now c.head.ensures.outline
    ∙ sym (cell-count rows c.self.inside.place)
    ∙ ap (λ (r : InColumns). length (cells_in r)) c.self.view_is
