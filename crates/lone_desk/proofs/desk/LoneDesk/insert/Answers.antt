use Rattle.std.proofs.Common.{subst, sym, ◌∙◌}
use Rattle.log_desk.proofs.SeenLaws.{length-seen}
use Rattle.log_desk.specs.Seen.{Seen, seen_of}
use Rattle.lone_desk.specs.Alone.{FollowsAlone, GainsAlone}
use Rattle.lone_desk.proofs.Laws.{followed, gained}
use Rattle.lone_desk.proofs.desk.LoneDesk.insert.Goals as goal
use Rattle.lone_desk.proofs.desk.LoneDesk.insert.Goals.{in-Ok, in-Err}

pub returns-clause-gains : goal.returns-clause-gains
returns-clause-gains g c = elim c.match-insert.branch [
  | in-Ok w ↦
      rw w.result-is
      (subst (λ (seen : Seen). GainsAlone seen (seen_of c.insert.new.pass) c.args.batch) c.self.view_is
      (gained c.self.inside.desk c.args.batch w.in-Ok.number c.self.inside.pass c.insert.new.pass c.self.invariant.1
      c.self.invariant.0 w.in-Ok.ensures.inserted))
  | in-Err w ↦ rw w.result-is tt
]

pub returns-clause-number : goal.returns-clause-number
returns-clause-number g c = elim c.match-insert.branch [
  | in-Ok w ↦ rw w.result-is (sym w.in-Ok.ensures.inserted.counted ∙ sym (length-seen c.insert.new.pass.seen))
  | in-Err w ↦ rw w.result-is tt
]

pub returns-clause-follows : goal.returns-clause-follows
returns-clause-follows g c = elim c.match-insert.branch [
  | in-Ok w ↦ rw w.result-is tt
  | in-Err w ↦
      rw w.result-is
      (subst (λ (seen : Seen). FollowsAlone seen (seen_of c.insert.new.pass)) c.self.view_is
      (followed c.self.inside.desk w.in-Err.fault c.self.inside.pass c.insert.new.pass c.self.invariant.1
      c.self.invariant.0 w.in-Err.ensures.refused))
]
