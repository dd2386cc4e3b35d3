use Rattle.std.proofs.Common.{◌≡◌, ◌++◌, ◌-◌, length}
use Rattle.lq_pipes.specs.Cells.{fields_behind}
use Rattle.lq_pipes.specs.Tokens.{members_tokens}
use Rattle.lq_pipes.proofs.cells.write_cells.Given as goal

abbrev pub invariant-loop-place : goal.invariant-loop-place
invariant-loop-place g l =
    let cells = g.R.LentRow.cells l.row in
    (l.writer.before ≡ l.initial.writer.before) ×
    (l.writer.tokens ++ members_tokens (fields_behind l.place cells) ≡ l.initial.writer.tokens ++ members_tokens (fields_behind l.from cells))

abbrev pub decreases-loop-place : goal.decreases-loop-place
decreases-loop-place g l = length (g.R.LentRow.cells l.row) - l.place
