use Rattle.std.proofs.Common.{◌≡◌, List, filter, subst}
use Rattle.lent_row.specs.Cells.{has_value}
use Rattle.log_model.specs.History.{Numbered}
use Rattle.log_model.specs.Row.{IsRow}
use Rattle.block_model.specs.Keys.{IsNumbered}
use Rattle.column_block.specs.InColumns.{InColumns, cells_in, row_at}
use Rattle.column_block.proofs.OpenLaws.{all-at, cells-valued, row-there}
use Rattle.column_block.proofs.open_row.OpenRowLentRow.rules.Goals as goal

pub returns : goal.returns
returns c =
    let rows : List Numbered = c.self.inside.stored.now in
    let place = c.self.inside.place in
    record {
      row = subst (λ (r : InColumns). IsRow r.numbered.row) c.self.view_is (all-at IsNumbered rows place
          (row_at rows place).numbered c.rules.ensures.each (row-there rows place c.self.invariant)).row;
      fields = subst (λ (r : InColumns). filter has_value (cells_in r) ≡ r.numbered.row.fields) c.self.view_is
          (cells-valued rows place c.rules.ensures.each c.self.invariant);
    }
