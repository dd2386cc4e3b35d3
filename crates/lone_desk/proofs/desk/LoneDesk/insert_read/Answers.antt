use Rattle.std.proofs.Common.{subst}
use Rattle.std.specs.Prelude.{IfErr, IfOk}
use Rattle.log_desk.specs.Seen.{Seen, caller_of, seen_of}
use Rattle.lone_desk.specs.Alone.{InsertsAlone, IsReading, RefusesAlone}
use Rattle.lone_desk.proofs.ReadLaws.{inserts_read, refuses_read, refuses_unread}
use Rattle.lone_desk.proofs.desk.LoneDesk.insert_read.Goals as goal

pub returns-in-Ok-clause-inserted : goal.returns-in-Ok-clause-inserted
returns-in-Ok-clause-inserted g c options now body reads =
    let pass = c.self.inside.pass in
    subst (λ (seen : Seen). IfOk c.commit.result (InsertsAlone options now body seen (seen_of c.commit.new.pass)))
    c.self.view_is
    (inserts_read (caller_of pass) c.self.invariant.1 options now body (seen_of pass) (seen_of c.commit.new.pass)
    c.in-Ok.incoming c.commit.result (subst (IsReading options now body) c.in-Ok.is reads) c.commit.ensures.committed)

pub returns-in-Ok-clause-refused : goal.returns-in-Ok-clause-refused
returns-in-Ok-clause-refused g c options now body reads =
    let pass = c.self.inside.pass in
    subst (λ (seen : Seen). IfErr c.commit.result (RefusesAlone options now body seen (seen_of c.commit.new.pass)))
    c.self.view_is
    (refuses_read (caller_of pass) c.self.invariant.1 options now body (seen_of pass) (seen_of c.commit.new.pass)
    c.in-Ok.incoming c.commit.result (subst (IsReading options now body) c.in-Ok.is reads) c.commit.ensures.refused)

pub returns-in-Err-clause-refused : goal.returns-in-Err-clause-refused
returns-in-Err-clause-refused g c options now body reads =
    refuses_unread (caller_of c.self.inside.pass) c.self.invariant.1 options now body c.args.self.now c.in-Err.fault
    (subst (IsReading options now body) c.in-Err.is reads)
