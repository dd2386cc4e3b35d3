use Rattle.std.proofs.Common.{◌≡◌, map, take}
use Rattle.log_model.specs.Print.{lines_text}
use Rattle.log_model.specs.Row.{record_of}
use Rattle.query_run.proofs.evaluation.lines_of.Given as goal

abbrev pub invariant-loop-row : goal.invariant-loop-row
invariant-loop-row l = l.text ≡ lines_text (map (λ row. record_of row.now.numbered.row) (take l.row-index l.rows))
