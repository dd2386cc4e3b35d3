use Rattle.std.proofs.Common.{rules, ◌≡◌, [], sym, ◌∙◌}
use Rattle.lq_pipes.specs.Cells.{fields_behind}
use Rattle.lq_pipes.specs.Merge.{fields_before}
use Rattle.lq_pipes.proofs.CellWalks.{all_left}
use Rattle.lq_pipes.proofs.cells.write_cells_through.Goals as goal

pub returns-clause-rest : goal.returns-clause-rest
returns-clause-rest g c =
    let left = fields_behind c.cells.place (g.R.LentRow.cells c.args.row.now) in
    let none : fields_before c.args.name.now left ≡ [] = search rules in
    sym (all_left c.args.name.now left none) ∙ c.cells.invariant.rest
