use Rattle.log_core.proofs.EntryLaws.{stands_seen}
use Rattle.log_desk.proofs.OpenLaws.{some_entries}
use Rattle.log_desk.proofs.desk.Desk.over.Goals as goal

pub new-requires-clause-history : goal.new-requires-clause-history
new-requires-clause-history g c = some_entries (λ rows. rows) c.args.shelf c.count-front.ensures.stands

pub returns-clause-history : goal.returns-clause-history
returns-clause-history g c =
    let found = c.in_ok-lock.ensures.history in
    (stands_seen (λ rows. rows) c.args.shelf c.in_ok-lock.at_lock.seen found.0, found.1)
