use Rattle.vl_trial.proofs.Keeping.{no_history}
use Rattle.vl_trial.proofs.kept.open_desk.Goals as goal

pub returns-in-Ok-clause-nothing : goal.returns-in-Ok-clause-nothing
returns-in-Ok-clause-nothing g c =
    no_history c.in_ok-store.store c.in-Ok.opened.0.history c.in_ok-store.ensures.nothing c.in-Ok.ensures.history.0
