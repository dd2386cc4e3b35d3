use Rattle.std.proofs.Common.{◌≡◌, ◌<◌, ◌∙◌, List, [], ap, arith, get_or, length, refl, sym}
use Rattle.log_model.specs.Field.{Field}
use Rattle.log_model.specs.History.{Numbered}
use Rattle.lent_row.specs.Cells.{cell_at, value_text}
use Rattle.block_model.specs.Columns.{names_of}
use Rattle.column_block.specs.InColumns.{InColumns, cells_in, row_at}
use Rattle.column_block.proofs.OpenLaws.{cell-count, cell-there, row-there, value-named}
use Rattle.column_block.proofs.open_row.OpenRowLentRow.value_at.Goals as goal

pub value_in-requires-clause-column : goal.value_in-requires-clause-column
value_in-requires-clause-column c =
    let rows : List Numbered = c.self.inside.stored.now in
    omega (
      arith,
      c.requires,
      ap (λ (r : InColumns). length (cells_in r)) c.self.view_is,
      cell-count rows c.self.inside.place,
    )

pub returns : goal.returns
returns c =
    let rows : List Numbered = c.self.inside.stored.now in
    let n : Numbered = (row_at rows c.self.inside.place).numbered in
    let cells = ap (λ (r : InColumns). length (cells_in r)) c.self.view_is in
    let lt : c.args.place < length (names_of rows) =
    omega (arith, c.requires, cells, cell-count rows c.self.inside.place) in
    value-named rows c.self.inside.place c.args.place (get_or (names_of rows) c.args.place []) (value_text
    c.value_in.result) n refl c.value_in.ensures (row-there rows c.self.inside.place c.self.invariant)
    ∙ sym (ap (λ (f : Field). f.1) (cell-there rows c.self.inside.place c.args.place lt))
    ∙ ap (λ (r : InColumns). (cell_at (cells_in r) c.args.place).1) c.self.view_is
