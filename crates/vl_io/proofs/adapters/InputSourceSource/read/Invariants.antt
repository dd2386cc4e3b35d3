use Rattle.std.proofs.Common.{◌≡◌, ◌≤◌, length}
use Rattle.std.specs.Io.KnownBytes.{Keeps}
use Rattle.vl_io.proofs.adapters.InputSourceSource.read.Given as goal

-- Each read so far was interrupted, and took nothing.
abbrev pub invariant-loop : goal.invariant-loop
invariant-loop g l = record {
  counts : l.initial.self.faults ≤ l.self.faults;
  room : length l.buf ≡ length l.initial.buf;
  kept : Keeps (g.R.Read.remaining l.initial.self.reader) (g.R.Read.remaining l.self.reader);
}
