use Rattle.std.proofs.Common.{◌^◌, lit<}
use Rattle.lq_pipes.specs.RowRecords.{records_left}
use Rattle.lq_pipes.specs.Steps.{stage_of}
use Rattle.lq_pipes.proofs.Fewer.{fewer}
use Rattle.lq_pipes.proofs.rows.apply_steps_to_rows.Goals as goal

pub run_all-requires-clause-few : goal.run_all-requires-clause-few
run_all-requires-clause-few g c =
    fewer (stage_of c.in-Some.first.now) (records_left g.R.LentRow.event c.args.rows) c.in_ok-records-in-Some.records (2 ^ 32) (lit< tt)
    c.requires.few c.in_ok-records-in-Some.ensures.ok
