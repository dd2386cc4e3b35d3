use Rattle.std.proofs.Common.{◌-◌, ◌≤◌, length, take}
use Rattle.http_in.specs.Lacks.{AddsIf, LacksLine}
use Rattle.http_in.specs.Limits.{head_limit}
use Rattle.http_in.specs.Lacks.{a_line}
use Rattle.http_in.proofs.line.whole_line.Given as goal

abbrev pub invariant-reads : goal.invariant-reads
invariant-reads g l = record {
  adds : AddsIf g.S.Source.left (LacksLine l.initial.window) l.initial.src l.src l.initial.window l.window;
  stays : g.S.Source.faults l.initial.src ≤ g.S.Source.faults l.src;
  fits : l.searched ≤ length l.window;
  none : LacksLine (take l.searched l.window);
}

abbrev pub decreases-reads : goal.decreases-reads
decreases-reads g l = head_limit - length l.window

abbrev pub ghost-fill : goal.ghost-fill
ghost-fill g a = a_line
