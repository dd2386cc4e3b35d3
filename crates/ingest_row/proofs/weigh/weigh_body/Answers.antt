use Rattle.std.proofs.Common.{arith, FitsSigned, w64}
use Rattle.std.proofs.lemmas.Int.{to_z-of_z}
use Rattle.ingest_row.proofs.Weighings.{begins, heavy, light}
use Rattle.ingest_row.proofs.weigh.weigh_body.Goals as goal

pub returns-then-weight-gt-LIMIT : goal.returns-then-weight-gt-LIMIT
returns-then-weight-gt-LIMIT c =
    let fits : FitsSigned w64 c.args.now = c.ranges.now in
    let first = (simp to_z-of_z at c.in_ok-rest.ensures.takes) c.args.body.now
    (begins c.args.o.now c.args.now c.args.body.now c.new-taking.result c.new-taking.ensures.rows
    c.new-taking.ensures.refused c.new-taking.ensures.number c.new-taking.ensures.weight) in
    let weighs = simp to_z-of_z at c.in_ok-weight.ensures in
    heavy c.args.o.now c.args.now c.args.body.now c.in_ok-rest.rest.now c.take_lines.new.taking weighs.0
    c.in_ok-weight.weight first weighs.1 (omega (arith, c.if-weight-gt-LIMIT.true))

pub returns-in-None : goal.returns-in-None
returns-in-None c =
    let fits : FitsSigned w64 c.args.now = c.ranges.now in
    let first = (simp to_z-of_z at c.in_ok-rest.ensures.takes) c.args.body.now
    (begins c.args.o.now c.args.now c.args.body.now c.new-taking.result c.new-taking.ensures.rows
    c.new-taking.ensures.refused c.new-taking.ensures.number c.new-taking.ensures.weight) in
    let weighs = simp to_z-of_z at c.in_ok-weight.ensures in
    rw c.into_intake.ensures (light c.args.o.now c.args.now c.args.body.now c.in_ok-rest.rest.now
    c.take_lines.new.taking weighs.0 c.in_ok-weight.weight first weighs.1
    (omega (arith, c.if-weight-gt-LIMIT.false)) c.in-None.ensures.none)
