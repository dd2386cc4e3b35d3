use Rattle.vl_session.proofs.InsertLaws.{insert_accepted, only_taken}
use Rattle.vl_session.proofs.law.insert_law.Goals as goal

pub returns-clause-taken : goal.returns-clause-taken
returns-clause-taken c options now body outcomes can = only_taken c.intake_law.ensures options now body outcomes can

pub returns-clause-insert : goal.returns-clause-insert
returns-clause-insert c caller request = insert_accepted c.intake_law.ensures caller request
