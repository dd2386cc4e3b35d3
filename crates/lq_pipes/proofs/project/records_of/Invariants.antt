use Rattle.std.proofs.Common.{◌≡◌, map, take}
use Rattle.log_model.specs.Row.{record_of}
use Rattle.lq_pipes.specs.Needs.{narrowed}
use Rattle.lq_pipes.specs.Projector.{projected}
use Rattle.lq_pipes.proofs.project.records_of.Given as goal

abbrev pub invariant-loop-row : goal.invariant-loop-row
invariant-loop-row g l = record {
  same : projected l.projector ≡ projected l.initial.projector;
  made : l.records.items ≡ map (narrowed (projected l.initial.projector))
      (map (λ row. record_of (g.R.LentRow.event row)) (take l.row-index l.rows));
}
