use Rattle.std.proofs.Common.{◌≤◌}
use Rattle.std.specs.Io.KnownBytes.{Keeps}
use Rattle.vl_io.proofs.adapters.OutputSinkSink.write.Given as goal

-- Each write so far was interrupted, and wrote nothing.
abbrev pub invariant-loop : goal.invariant-loop
invariant-loop g l = record {
  counts : l.initial.self.faults ≤ l.self.faults;
  kept : Keeps (g.W.Write.contents l.initial.self.writer) (g.W.Write.contents l.self.writer);
}
