use Rattle.log_model.proofs.Standing.{stands_after_all}
use Rattle.log_core.proofs.shelf.stands_after_all.Goals as goal

pub returns : goal.returns
returns g c = stands_after_all g.P.Held.numbered
