use Rattle.std.proofs.Common.{◌≡◌, subst}
use Rattle.log_model.specs.History.{batches_in}
use Rattle.log_desk.specs.LogEntries.{seen_history}
use Rattle.log_desk.specs.Seen.{Seen}
use Rattle.lone_desk.specs.Kept.{RoundsAlone}
use Rattle.lone_desk.proofs.KeptLaws.{rounds_alone, same_seen}
use Rattle.lone_desk.proofs.desk.LoneDesk.round.Goals as goal

pub returns-clause-same : goal.returns-clause-same
returns-clause-same g c =
    let after = c.round.new.pass in
    subst (λ (seen : Seen). seen_history after.seen ≡ seen.history) c.self.view_is
    (same_seen c.self.inside.desk c.self.inside.pass after c.self.invariant.0 c.self.invariant.1 c.round.ensures.sees)

pub returns-clause-round : goal.returns-clause-round
returns-clause-round g c =
    let after = c.round.new.pass in
    let e = c.round.ensures in
    subst (λ (seen : Seen).
    RoundsAlone g.V.Vault.is_told g.V.Vault.past g.V.Vault.faults (batches_in seen.history) c.args.keeper.now
    c.round.new.self after.mark c.round.result) c.self.view_is
    (rounds_alone c.self.inside.desk c.self.inside.pass after c.self.invariant.0 c.self.invariant.1 e.sees
    g.V.Vault.is_told g.V.Vault.past g.V.Vault.faults c.args.keeper.now c.round.new.self e.round.0 e.round.1 e.keeps
    c.round.result e.round.2)
