use Rattle.std.proofs.Common.{◌++◌, ◌^◌, arith}
use Rattle.lq_pipes.specs.RowRecords.{records_left}
use Rattle.lq_pipes.proofs.Rowwise.{pieces_few, pieces_more}
use Rattle.lq_pipes.proofs.rows.tally_of_rows.Goals as goal

pub loop-rows-preserved : goal.loop-rows-preserved
loop-rows-preserved g c =
    let here = c.loop-rows.invariant in
    let whole = records_left g.R.LentRow.event c.args.rows in
    let left = records_left g.R.LentRow.event c.loop-rows.rows in
    let rest = records_left g.R.LentRow.event c.next.new.self in
    let gives = rw c.in-Some.is at c.in_ok-records.ensures in
    let taken = rw c.as_slice.ensures at c.in_ok-add_all.ensures in
    let small = pieces_few whole here.done c.in-Some.records left rest (2 ^ 32) here.split gives.0 here.few in
    record {
      done = here.done ++ c.in-Some.records;
      tallies = taken c.args.names.now here.done (omega (arith, small)) here.tallies;
      split = pieces_more whole here.done c.in-Some.records left rest here.split gives.0;
      few = here.few;
    }
