use Rattle.std.proofs.Common.{ap}
use Rattle.vl_session.specs.Incoming.{insert_outcome_of}
use Rattle.vl_session.specs.Insert.{large}
use Rattle.vl_session.proofs.insert_reply.refusal_reply.Goals as goal

pub returns-in_ok-text-in-Large : goal.returns-in_ok-text-in-Large
returns-in_ok-text-in-Large c =
    (large c.in-Large.weight, ap insert_outcome_of c.in-Large.is, c.in_ok-text-in-Large.ensures)
