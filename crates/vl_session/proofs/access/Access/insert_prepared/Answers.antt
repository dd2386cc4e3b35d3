use Rattle.std.proofs.Common.{sym, ◌∙◌}
use Rattle.log_desk.proofs.SeenLaws.{length-seen}
use Rattle.vl_session.proofs.SeenLemmas.{refused, refused_caller, takes}
use Rattle.vl_session.proofs.access.Access.insert_prepared.Goals as goal
use Rattle.vl_session.proofs.access.Access.insert_prepared.Goals.{in-Ok, in-Err}

pub returns-clause-takes : goal.returns-clause-takes
returns-clause-takes g c = elim c.match-insert_prepared.branch [
  | in-Ok w ↦
      rw w.result-is
      (takes c.args.self.now.desk.now c.args.batch w.in-Ok.number c.args.pass.now c.insert_prepared.new.pass c.requires
      w.in-Ok.ensures.inserted)
  | in-Err w ↦ rw w.result-is tt
]

pub returns-clause-number : goal.returns-clause-number
returns-clause-number g c = elim c.match-insert_prepared.branch [
  | in-Ok w ↦ rw w.result-is (sym w.in-Ok.ensures.inserted.counted ∙ sym (length-seen c.insert_prepared.new.pass.seen))
  | in-Err w ↦ rw w.result-is tt
]

pub returns-clause-refused : goal.returns-clause-refused
returns-clause-refused g c = elim c.match-insert_prepared.branch [
  | in-Ok w ↦ rw w.result-is tt
  | in-Err w ↦
      rw w.result-is
      (refused c.args.self.now.desk.now c.args.pass.now c.insert_prepared.new.pass w.in-Err.fault c.requires
      w.in-Err.ensures.refused)
]

pub returns-clause-caller : goal.returns-clause-caller
returns-clause-caller g c = elim c.match-insert_prepared.branch [
  | in-Ok w ↦ w.in-Ok.ensures.inserted.took.caller
  | in-Err w ↦
      refused_caller c.args.self.now.desk.now c.args.pass.now c.insert_prepared.new.pass w.in-Err.fault w.in-Err.ensures.refused
]
