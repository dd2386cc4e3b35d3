use Rattle.log_desk.proofs.OpenLaws.{none_seen}
use Rattle.log_desk.proofs.desk.Desk.fresh.Goals as goal

pub returns-clause-history : goal.returns-clause-history
returns-clause-history g c =
    none_seen _ c.in_ok-desk.pass.seen c.in_ok-shelf.ensures.nothing c.in_ok-desk.ensures.history.0
