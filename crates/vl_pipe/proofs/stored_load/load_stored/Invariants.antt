use Rattle.std.proofs.Common.{◌-◌, ◌+◌, ◌<◌, ◌≤◌, length}
use Rattle.log_model.specs.History.{batches_in}
use Rattle.vl_io.specs.Change.{change_of}
use Rattle.vl_pipe.specs.Flushing.{flush_size}
use Rattle.vl_pipe.specs.Storing.{Base, IsStoring}
use Rattle.vl_pipe.proofs.LoadLemmas.{Loading}
use Rattle.vl_pipe.proofs.stored_load.load_stored.Given as goal

abbrev pub invariant-windows : goal.invariant-windows
invariant-windows g l =
    let base : Base = record {
      start = g.V.Vault.past l.initial.stored.keeper.vault;
      faults = g.V.Vault.faults l.initial.stored.keeper.vault;
      written = g.O.Sink.written l.initial.out;
      failed = g.O.Sink.faults l.initial.out;
    } in
    record {
      loading :
          Loading l.arrival (batches_in l.initial.stored.desk.history)
          (change_of g.S.Source.left g.S.Source.faults l.initial.src l.src)
          (change_of g.E.Sink.written g.E.Sink.faults l.initial.err l.err)
          l.reader l.stored.desk l.lines;
      storing :
          IsStoring g.V.Vault.is_told g.V.Vault.past g.V.Vault.faults (batches_in l.initial.stored.desk.history) base
          l.stored.keeper l.stored.desk l.stored.count (g.O.Sink.written l.out) (g.O.Sink.faults l.out);
      room : l.stored.count < l.stored.keeper.front + flush_size;
      some : 0 < l.most;
      few : l.most ≤ 8;
    }

abbrev pub decreases-windows : goal.decreases-windows
decreases-windows g l = l.reader.limit - (l.reader.passed + length l.reader.group)
