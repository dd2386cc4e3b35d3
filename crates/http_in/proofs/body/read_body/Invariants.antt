use Rattle.std.proofs.Common.{◌≤◌}
use Rattle.http_in.specs.Chunks.{HasRoom}
use Rattle.http_in.specs.Lacks.{LacksBody, MovesIf}
use Rattle.http_in.specs.Measure.{steps_left}
use Rattle.http_in.specs.Progress.{progress_of}
use Rattle.http_in.proofs.body.read_body.Given as goal

abbrev pub invariant-stages : goal.invariant-stages
invariant-stages g l = record {
  moved : MovesIf g.S.Source.left (LacksBody (progress_of l.initial.body l.initial.window)) l.initial.src l.src
      (progress_of l.initial.body l.initial.window) (progress_of l.body l.window);
  room : HasRoom l.body.stage l.body.bytes.items;
  stays : g.S.Source.faults l.initial.src ≤ g.S.Source.faults l.src;
}

abbrev pub decreases-stages : goal.decreases-stages
decreases-stages g l = steps_left l.body.stage l.body.bytes.items
