use Rattle.std.proofs.Common.{rules}
use Rattle.lq_pipes.proofs.Projected.{list_of_row}
use Rattle.lq_pipes.proofs.projector.record_law.Goals as goal

pub returns : goal.returns
returns g c = search (rules, list_of_row)
