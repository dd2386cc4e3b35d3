use Rattle.vl_session.proofs.SeenLemmas.{looks}
use Rattle.vl_session.proofs.access.Access.look.Goals as goal

pub returns-clause-looks : goal.returns-clause-looks
returns-clause-looks g c =
    looks c.args.self.now.desk.now c.args.pass.now c.look.new.pass c.requires c.look.ensures.looked
