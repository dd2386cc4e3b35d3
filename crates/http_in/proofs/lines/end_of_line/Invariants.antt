use Rattle.std.proofs.Common.{◌≡◌, ◌≤◌, false, take}
use Rattle.http_in.specs.Lines.{begun_after, lines_in}
use Rattle.http_in.proofs.lines.end_of_line.Given as goal

abbrev pub invariant-loop-i : goal.invariant-loop-i
invariant-loop-i l = record {
  count : l.ended ≡ lines_in (take l.i l.bytes);
  state : l.begun ≡ begun_after false (take l.i l.bytes);
  few : l.ended ≤ l.lines;
}
