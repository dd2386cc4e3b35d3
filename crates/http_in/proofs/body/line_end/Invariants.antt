use Rattle.std.proofs.Common.{◌-◌, ◌<◌, ◌≤◌, length}
use Rattle.http_in.specs.Lacks.{AddsIf}
use Rattle.http_in.specs.Lacks.{a_line_end}
use Rattle.http_in.proofs.body.line_end.Given as goal

abbrev pub invariant-reads : goal.invariant-reads
invariant-reads g l = record {
  adds : AddsIf g.S.Source.left (length l.initial.window < 2) l.initial.src l.src l.initial.window l.window;
  stays : g.S.Source.faults l.initial.src ≤ g.S.Source.faults l.src;
}

abbrev pub decreases-reads : goal.decreases-reads
decreases-reads g l = 2 - length l.window

abbrev pub ghost-fill : goal.ghost-fill
ghost-fill g a = a_line_end
