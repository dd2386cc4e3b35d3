use Rattle.std.proofs.Common.{◌∙◌, List, ap}
use Rattle.log_model.specs.History.{Numbered}
use Rattle.column_block.specs.InColumns.{InColumns, row_at}
use Rattle.column_block.proofs.OpenLaws.{labels-at, row-there}
use Rattle.column_block.proofs.open_row.OpenRowLentRow.stream.Goals as goal

pub returns : goal.returns
returns c =
    let rows : List Numbered = c.self.inside.stored.now in
    let n : Numbered = (row_at rows c.self.inside.place).numbered in
    c.stream.ensures
    ∙ labels-at rows c.head.result.now c.self.inside.place n c.head.ensures.outline c.rules.ensures.block.stream
    (row-there rows c.self.inside.place c.self.invariant)
    ∙ ap (λ (r : InColumns). r.numbered.row.labels) c.self.view_is
