use Rattle.std.proofs.Common.{Some, sym, subst}
use Rattle.vl_session.specs.SyslogTaking.{Comes}
use Rattle.vl_session.proofs.SyslogInflow.{cut_fault}
use Rattle.vl_session.proofs.syslog_inflow.Inflow.finish.Goals as goal

pub returns-in-Err : goal.returns-in-Err
returns-in-Err c = record {
  comes = λ fed source h is gave spent.
      subst (λ end. Comes fed source c.args.self.now.framer c.finish.new.self c.finish.new.out
      c.args.self.now.taken (Some end))
      (sym c.from.ensures)
      (cut_fault fed c.args.self.now.taken source c.args.self.now.framer c.finish.new.self c.args.self.now.messages
      c.finish.new.out c.in-Err.fault h is c.requires.within c.requires.empty gave spent c.in-Err.ensures.cut);
}
