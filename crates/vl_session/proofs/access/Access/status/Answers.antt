use Rattle.std.proofs.Common.{sym, ◌∙◌}
use Rattle.log_desk.proofs.SeenLaws.{length-seen}
use Rattle.vl_session.proofs.SeenLemmas.{looks}
use Rattle.vl_session.proofs.access.Access.status.Goals as goal

pub returns-clause-looks : goal.returns-clause-looks
returns-clause-looks g c =
    looks c.args.self.now.desk.now c.args.pass.now c.status.new.pass c.requires c.status.ensures.looked

pub returns-clause-numbers : goal.returns-clause-numbers
returns-clause-numbers g c =
    (c.status.ensures.numbers.0 ∙ sym (length-seen c.status.new.pass.seen), c.status.ensures.numbers.1)
