use Rattle.std.proofs.Common.{subst, sym, unsigned_abs, FitsSigned, w64}
use Rattle.std.proofs.lemmas.Int.{to_z-of_z}
use Rattle.log_desk.specs.Seen.{caller_of, seen_of}
use Rattle.vl_session.specs.Incoming.{IsIncoming, IsNoBatch}
use Rattle.vl_session.specs.Insertion.{RefusesLines}
use Rattle.vl_session.proofs.InsertLaws.{is_batch, only_for_memory}
use Rattle.vl_session.proofs.InsertionLemmas.{inserts, refuses_lines, refuses_rows, refuses_with_room}
use Rattle.vl_session.proofs.QueryLemmas.{same_moment}
use Rattle.vl_session.proofs.ResultLemmas.{err_so, if_err, ok_so}
use Rattle.vl_session.proofs.insert.insert_lines.Goals as goal

pub returns-in_err-incoming-clause-refused : goal.returns-in_err-incoming-clause-refused
returns-in_err-incoming-clause-refused g c =
    let fits : FitsSigned w64 c.args.now = c.ranges.now in
    let moment = same_moment c.args.now c.requires.moment in
    let unread = subst (λ now. IsNoBatch c.args.options.now now c.args.body.now c.in_err-incoming.field-0.0) moment
    (simp to_z-of_z at c.in_err-incoming.ensures.unread) in
    if_err c.from_residual.result _ _ c.from_residual.ensures.1
    (λ fault is. subst (RefusesLines _ _ _ _ _ _) (sym is)
    (refuses_lines (caller_of c.args.pass.now) c.args.options.now (unsigned_abs c.args.now) c.args.body.now
    (seen_of c.args.pass.now) c.in_err-incoming.field-0.0 unread))

pub returns-in_err-incoming-clause-room : goal.returns-in_err-incoming-clause-room
returns-in_err-incoming-clause-room g c room =
    err_so c.from_residual.result _ _ (returns-in_err-incoming-clause-refused g c)
    (λ fault why. refuses_with_room _ _ _ _ _ _ fault room why)

pub returns-in_err-incoming-clause-complete : goal.returns-in_err-incoming-clause-complete
returns-in_err-incoming-clause-complete g c outcomes can room =
    err_so c.from_residual.result _ _ (returns-in_err-incoming-clause-refused g c)
    (λ fault why. only_for_memory c.intake_law.ensures c.args.options.now (unsigned_abs c.args.now) c.args.body.now
    outcomes can (caller_of c.args.pass.now) (seen_of c.args.pass.now) (seen_of c.args.pass.now) room fault why)

pub returns-clause-inserted : goal.returns-clause-inserted
returns-clause-inserted g c =
    let fits : FitsSigned w64 c.args.now = c.ranges.now in
    let moment = same_moment c.args.now c.requires.moment in
    let read = simp to_z-of_z at c.in_ok-incoming.ensures.read in
    let is = subst (λ now. IsIncoming c.args.options.now now c.args.body.now read.0 c.in_ok-incoming.incoming) moment
    read.1 in
    ok_so c.commit.result _ _ c.commit.ensures.committed
    (λ insertion commits. inserts (caller_of c.args.pass.now) c.args.options.now (unsigned_abs c.args.now)
    c.args.body.now read.0 (seen_of c.args.pass.now) (seen_of c.commit.new.pass) is.given c.in_ok-incoming.incoming
    insertion is commits)

pub returns-clause-refused : goal.returns-clause-refused
returns-clause-refused g c =
    let fits : FitsSigned w64 c.args.now = c.ranges.now in
    let moment = same_moment c.args.now c.requires.moment in
    let read = simp to_z-of_z at c.in_ok-incoming.ensures.read in
    let is = subst (λ now. IsIncoming c.args.options.now now c.args.body.now read.0 c.in_ok-incoming.incoming) moment
    read.1 in
    err_so c.commit.result _ _ c.commit.ensures.refused
    (λ fault why. refuses_rows (caller_of c.args.pass.now) c.args.options.now (unsigned_abs c.args.now) c.args.body.now
    read.0 (seen_of c.args.pass.now) (seen_of c.commit.new.pass) is.given c.in_ok-incoming.incoming fault is why)

pub returns-clause-room : goal.returns-clause-room
returns-clause-room g c room =
    err_so c.commit.result _ _ (returns-clause-refused g c)
    (λ fault why. refuses_with_room _ _ _ _ _ _ fault room why)

pub returns-clause-batch : goal.returns-clause-batch
returns-clause-batch g c outcomes can =
    ok_so c.commit.result _ _ (returns-clause-inserted g c)
    (λ insertion is. is_batch c.intake_law.ensures c.args.options.now (unsigned_abs c.args.now) c.args.body.now outcomes
    can (caller_of c.args.pass.now) (seen_of c.args.pass.now) (seen_of c.commit.new.pass) insertion is)

pub returns-clause-complete : goal.returns-clause-complete
returns-clause-complete g c outcomes can room =
    err_so c.commit.result _ _ (returns-clause-refused g c)
    (λ fault why. only_for_memory c.intake_law.ensures c.args.options.now (unsigned_abs c.args.now) c.args.body.now
    outcomes can (caller_of c.args.pass.now) (seen_of c.args.pass.now) (seen_of c.commit.new.pass) room fault why)
