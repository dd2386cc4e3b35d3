use Rattle.std.proofs.Common.{◌≡◌, ◌-◌, ◌+◌, ◌<◌, ◌≤◌, length}
use Rattle.log_model.specs.History.{batches_in}
use Rattle.vl_io.specs.Change.{change_of}
use Rattle.vl_pipe.proofs.LoadLemmas.{Loading}
use Rattle.vl_pipe.proofs.load.load.Given as goal

abbrev pub invariant-windows : goal.invariant-windows
invariant-windows g l = record {
  loading :
      Loading l.arrival (batches_in l.initial.desk.history)
      (change_of g.S.Source.left g.S.Source.faults l.initial.src l.src)
      (change_of g.E.Sink.written g.E.Sink.faults l.initial.err l.err)
      l.reader l.desk l.lines;
  settled : l.desk.settled ≡ l.initial.desk.settled;
  some : 0 < l.most;
  few : l.most ≤ 8;
}

abbrev pub decreases-windows : goal.decreases-windows
decreases-windows g l = l.reader.limit - (l.reader.passed + length l.reader.group)
