use Rattle.std.proofs.Common.{◌≡◌, ◌<◌, ◌∙◌, List, ap, arith, length, sym}
use Rattle.log_model.specs.Field.{Field}
use Rattle.log_model.specs.History.{Numbered}
use Rattle.lent_row.specs.Cells.{cell_at}
use Rattle.block_model.specs.Columns.{names_of}
use Rattle.column_block.specs.InColumns.{InColumns, cells_in}
use Rattle.column_block.proofs.OpenLaws.{cell-count, cell-there, column-count, name-at}
use Rattle.column_block.proofs.open_row.OpenRowLentRow.name_at.Goals as goal

pub name-requires : goal.name-requires
name-requires c =
    let rows : List Numbered = c.self.inside.stored.now in
    omega (
      arith,
      c.requires,
      ap (λ (r : InColumns). length (cells_in r)) c.self.view_is,
      cell-count rows c.self.inside.place,
      column-count rows c.head.result.now c.head.ensures.outline,
    )

pub returns : goal.returns
returns c =
    let rows : List Numbered = c.self.inside.stored.now in
    let cells = ap (λ (r : InColumns). length (cells_in r)) c.self.view_is in
    let lt : c.args.place < length (names_of rows) =
    omega (arith, c.requires, cells, cell-count rows c.self.inside.place) in
    name-at rows c.head.result.now c.args.place c.name.result.now c.head.ensures.outline lt c.name.ensures
    ∙ sym (ap (λ (f : Field). f.0) (cell-there rows c.self.inside.place c.args.place lt))
    ∙ ap (λ (r : InColumns). (cell_at (cells_in r) c.args.place).0) c.self.view_is
