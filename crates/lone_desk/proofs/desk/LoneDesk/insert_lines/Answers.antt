use Rattle.std.proofs.Common.{sym, subst, unsigned_abs, FitsSigned, w64}
use Rattle.std.proofs.lemmas.Int.{to_z-of_z}
use Rattle.log_desk.specs.Seen.{caller_of, seen_of}
use Rattle.vl_session.specs.Seen.{HasRoom}
use Rattle.lone_desk.proofs.InsertLaws.{only_memory}
use Rattle.lone_desk.proofs.desk.LoneDesk.insert_lines.Goals as goal

pub returns-clause-batch : goal.returns-clause-batch
returns-clause-batch g c =
    let fits : FitsSigned w64 c.args.now = c.ranges.now in
    simp to_z-of_z at c.insert_lines.ensures.batch

pub returns-clause-complete : goal.returns-clause-complete
returns-clause-complete g c outcomes can room =
    let fits : FitsSigned w64 c.args.now = c.ranges.now in
    let e = c.insert_lines.ensures in
    let pass = c.self.inside.pass in
    let complete = simp to_z-of_z at e.complete in
    only_memory (caller_of pass) c.self.invariant.1 (seen_of pass) (seen_of c.insert_lines.new.pass) c.args.options.now
    (unsigned_abs c.args.now) c.args.body.now c.insert_lines.result (simp to_z-of_z at e.refused)
    (complete outcomes can) (subst HasRoom (sym c.self.view_is) room)
