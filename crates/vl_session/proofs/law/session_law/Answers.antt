use Rattle.vl_session.proofs.GrowLemmas.{turns_end, turns_grow}
use Rattle.vl_session.proofs.RequestLemmas.{all_served}
use Rattle.vl_session.proofs.law.session_law.Goals as goal

pub returns-clause-requests : goal.returns-clause-requests
returns-clause-requests _ c session by requests behind are =
    all_served c.source c.sink session.turns session.serving.used session.rest behind c.end requests by session.ends
    session.serving.requests are

pub returns-clause-entries : goal.returns-clause-entries
returns-clause-entries _ c session = turns_grow c.caller 0 c.first c.last session.turns session.serving.ran

pub returns-clause-ends : goal.returns-clause-ends
returns-clause-ends _ c session = turns_end c.caller 0 c.first c.last session.turns session.serving.ran
