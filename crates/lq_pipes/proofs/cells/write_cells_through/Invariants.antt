use Rattle.std.proofs.Common.{◌≡◌, ◌++◌, ◌-◌, length}
use Rattle.lq_pipes.specs.Cells.{fields_behind}
use Rattle.lq_pipes.specs.Merge.{fields_before, fields_from}
use Rattle.lq_pipes.specs.Tokens.{members_tokens}
use Rattle.lq_pipes.proofs.cells.write_cells_through.Given as goal

abbrev pub invariant-cells : goal.invariant-cells
invariant-cells g l =
    let left = fields_behind l.place (g.R.LentRow.cells l.row) in
    let whole = fields_behind l.from (g.R.LentRow.cells l.row) in
    record {
      before : l.writer.before ≡ l.initial.writer.before;
      written : l.writer.tokens ++ members_tokens (fields_before l.name left)
          ≡ l.initial.writer.tokens ++ members_tokens (fields_before l.name whole);
      rest : fields_from l.name left ≡ fields_from l.name whole;
    }

abbrev pub decreases-cells : goal.decreases-cells
decreases-cells g l = length (g.R.LentRow.cells l.row) - l.place
