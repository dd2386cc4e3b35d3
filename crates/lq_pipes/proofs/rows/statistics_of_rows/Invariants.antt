use Rattle.std.proofs.Common.{◌≡◌, ◌<◌, ◌^◌, ◌++◌, List, length}
use Rattle.lq_ast.specs.PipeView.{grouping}
use Rattle.lq_ast.specs.Records.{Record}
use Rattle.lq_pipes.specs.RowRecords.{records_left}
use Rattle.lq_stats.specs.Plan.{IsGathered}
use Rattle.lq_pipes.proofs.rows.statistics_of_rows.Given as goal

abbrev pub invariant-loop-rows : goal.invariant-loop-rows
invariant-loop-rows g l = record {
  done : List Record;
  taken : IsGathered l.gathered (grouping l.pipe) done;
  split : records_left g.R.LentRow.event l.initial.rows ≡ done ++ records_left g.R.LentRow.event l.rows;
  few : length (records_left g.R.LentRow.event l.initial.rows) < 2 ^ 32;
}

abbrev pub decreases-loop-rows : goal.decreases-loop-rows
decreases-loop-rows g l = length (records_left g.R.LentRow.event l.rows)
