use Rattle.std.proofs.Common.{subst}
use Rattle.turn_lock.specs.Passes.{Finds}
use Rattle.log_desk.proofs.SeenLaws.{looked_left}
use Rattle.log_desk.proofs.desk.Desk.status.Goals as goal

pub returns-clause-looked : goal.returns-clause-looked
returns-clause-looked g c =
    let inside = c.enter-turn.result.pass.now in
    looked_left c.args.self.now c.args.pass.now inside c.leave.new.self.0 c.requires
    (subst (λ pass. Finds pass inside) c.pass.view_is c.enter-turn.ensures.finds) c.leave.ensures
