use Rattle.std.proofs.Common.{sym, ◌∙◌}
use Rattle.log_desk.proofs.SeenLaws.{length-seen}
use Rattle.vl_session.proofs.desk_log.DeskLogLog.front.Goals as goal

pub returns : goal.returns
returns g c = c.front.ensures ∙ sym (length-seen c.args.self.now.pass.now.seen)
